-- A list of calls, from a paragraph's making: what is said of each, what it leaves, and the history
-- that it is.
use Rattle.std.specs.Prelude.{◌≡◌, ℕ, zero, suc, ◌-◌, ◌+◌, Bool, true, false, cond, List, [], ◌∷◌, ◌++◌, length, take, count_by, nat_le, slice_set, Some, None, Option}
use Rattle.model.specs.declared.Glyph.{Glyph}
use Rattle.paragraph.specs.declared.calls.Call.{Call as CallWith}
use Rattle.paragraph.specs.declared.calls.Call.TheVariants.{Shape, Line as LineOf, Pay, Waive, Clear}
use Rattle.paragraph.specs.declared.shaped.Shaped.{Shaped}
use Rattle.paragraph.specs.declared.slip.Slip.{Slip}
use Rattle.paragraph.specs.Calls.{Answer, Call, Inputs, Memory, Paragraph, clear, denied, done, gives, is_blank, is_shaped, kept, line, owes, paid, pay, returned, shape, unpaid, waive}
use Rattle.paragraph.specs.Hand.{in_hand, places_used}
use Rattle.paragraph.specs.Step.{Step}
use Rattle.paragraph.specs.Law.{Course, History, Outlasts}

-- A call as it is asked for: shape brings inputs, pay and waive name a place of the hand, counted
-- from 1.
abbrev pub Asked : Type 0
Asked = CallWith Inputs

-- What is said of a call: that it was not made, since the paragraph does not know it, its slip is
-- not in the hand, or no place is left there for a slip; or its answer. Glyphs and marks are
-- counts.
pub data Said : Type 0 where
  unknown : Said
  not_in_hand : Said
  no_place : Said
  was_shaped : (glyphs marks hits : ℕ) → Said
  was_kept : (first count : ℕ) → Said
  has_slip : (number : ℕ) → Said
  was_paid : (glyphs marks hits : ℕ) → Said
  was_waived : Said
  was_cleared : Said
  was_refused : (number : ℕ) → Said

-- What calls are made on: a blank paragraph, or a shaped one with the inputs of its accepted shape.
pub data Subject : Type 0 where
  still_blank : (number : ℕ) → Subject
  shaped_from : Inputs → Shaped → Subject

abbrev pub paragraph_of : Subject → Paragraph
paragraph_of (still_blank n) = is_blank n
paragraph_of (shaped_from x k) = is_shaped k

abbrev pub subject_of : Inputs → Paragraph → Subject
subject_of x (is_blank n) = still_blank n
subject_of x (is_shaped k) = shaped_from x k

-- What there is between two calls: what they are made on; the hand, and how many of its places have
-- been in use; the paragraph's memory, and pay's own.
pub record Desk : Type 0 where
  pub subject : Subject
  pub hand : List (Option Slip)
  pub used : ℕ
  pub memory : Memory
  pub own : Memory

abbrev pub desk : Subject → List (Option Slip) → (used : ℕ) → (memory own : Memory) → Desk
desk s hand used m own = record { subject = s; hand = hand; used = used; memory = m; own = own }

-- A call is made, with these inputs; or it is not, and this is said.
pub data Made : Type 0 where
  makes : Inputs → Call → Made
  says : Said → Made

abbrev pub with_slip : Inputs → (Slip → Call) → Option Slip → Made
with_slip x f None = says not_in_hand
with_slip x f (Some s) = makes x (f s)

-- A blank paragraph knows only shape, with the inputs that it brings; a shaped one all but shape,
-- with those of its accepted shape. A line is made only while a place is left in the hand.
abbrev pub asked_of : Subject → Desk → Asked → Made
asked_of (still_blank n) d (Shape x) = makes x shape
asked_of (still_blank n) d (LineOf a b) = says unknown
asked_of (still_blank n) d (Pay j) = says unknown
asked_of (still_blank n) d (Waive j) = says unknown
asked_of (still_blank n) d Clear = says unknown
asked_of (shaped_from x k) d (Shape y) = says unknown
asked_of (shaped_from x k) d (LineOf a b) =
    cond (nat_le (length d.hand) d.used) (says no_place) (makes x (line a b))
asked_of (shaped_from x k) d (Pay j) = with_slip x (λ s. pay s d.own) (in_hand d.hand j)
asked_of (shaped_from x k) d (Waive j) = with_slip x waive (in_hand d.hand j)
asked_of (shaped_from x k) d Clear = makes x clear

abbrev pub asks : Desk → Asked → Made
asks d c = asked_of d.subject d c

abbrev pub shaped_as : Paragraph → Said
shaped_as (is_blank n) = unknown
shaped_as (is_shaped k) = was_shaped k.count k.length k.hits

abbrev pub done_as : Call → Paragraph → Said
done_as shape p = shaped_as p
done_as (line a b) p = unknown
done_as (pay s own) p = unknown
done_as (waive s) p = was_waived
done_as clear p = was_cleared

-- What is said of a call that was made, by its answer, the paragraph that it left, and how many
-- places were in use.
abbrev pub said_of : Call → Answer → Paragraph → (used : ℕ) → Said
said_of c done p n = done_as c p
said_of c (gives (kept a b first count)) p n = was_kept first count
said_of c (gives (paid a b count hits own)) p n = was_paid count (b - a) hits
said_of c (owes s) p n = has_slip (n + 1)
said_of c (denied number) p n = was_refused number
said_of c (returned number s) p n = was_refused number
said_of c (unpaid number s own) p n = was_refused number

-- A slip that is paid or waived leaves its place.
abbrev pub taken : List (Option Slip) → Asked → List (Option Slip)
taken hand (Shape x) = hand
taken hand (LineOf a b) = hand
taken hand (Pay j) = slice_set hand (j - 1) None
taken hand (Waive j) = slice_set hand (j - 1) None
taken hand Clear = hand

-- A slip that is given out goes behind the places in use; a refused pay or waive leaves its own
-- where it was.
abbrev pub hand_after : Desk → Asked → Answer → List (Option Slip)
hand_after d c done = taken d.hand c
hand_after d c (gives l) = taken d.hand c
hand_after d c (owes s) = slice_set d.hand d.used (Some s)
hand_after d c (denied n) = d.hand
hand_after d c (returned n s) = d.hand
hand_after d c (unpaid n s own) = d.hand

-- A place is used once, so that slips are numbered as they were given out.
abbrev pub used_after : (used : ℕ) → Answer → ℕ
used_after n done = n
used_after n (gives l) = n
used_after n (owes s) = n + 1
used_after n (denied number) = n
used_after n (returned number s) = n
used_after n (unpaid number s own) = n

abbrev pub own_after : Memory → Answer → Memory
own_after m done = m
own_after m (gives (kept a b first count)) = m
own_after m (gives (paid a b count hits own)) = own
own_after m (owes s) = m
own_after m (denied n) = m
own_after m (returned n s) = m
own_after m (unpaid n s own) = own

-- What a call that was made leaves.
abbrev pub desk_after : Desk → Asked → Inputs → Answer → Paragraph → Memory → Desk
desk_after d c x r p m =
    record {
      subject = subject_of x p;
      hand = hand_after d c r;
      used = used_after d.used r;
      memory = m;
      own = own_after d.own r;
    }

-- A call that was not made changes nothing; one that was made is a step.
abbrev pub Does : Asked → Said → Desk → Option (Call × Answer) → Desk → Type 0
Does c said d None e = (asks d c ≡ says said) × (e ≡ d)
Does c said d (Some (call, r)) e =
    (x : Inputs) × (p : Paragraph) × (m : Memory) × (asks d c ≡ makes x call)
    × Step x d.memory (paragraph_of d.subject) call r p m × (said ≡ said_of call r p d.used)
    × (e ≡ desk_after d c x r p m)

-- A call and what is said of it, from desk to desk.
abbrev pub Takes : Asked → Said → Desk → Desk → Type 0
Takes c said d e = (h : Option (Call × Answer)) × Does c said d h e

abbrev pub in_front : Option (Call × Answer) → List (Call × Answer) → List (Call × Answer)
in_front None hs = hs
in_front (Some h) hs = h ∷ hs

abbrev pub first_of : Memory → (glyphs marks : ℕ) → Memory
first_of m glyphs marks = record { run = take glyphs m.run; marks = take marks m.marks }

abbrev pub nothing : Memory
nothing = record { run = []; marks = [] }

-- The glyphs and marks that a call gave: an accepted shape in the paragraph's memory, a pay in its
-- own.
abbrev pub given_by : Said → Desk → Memory
given_by unknown e = nothing
given_by not_in_hand e = nothing
given_by no_place e = nothing
given_by (was_shaped glyphs marks hits) e = first_of e.memory glyphs marks
given_by (was_kept first count) e = nothing
given_by (has_slip number) e = nothing
given_by (was_paid glyphs marks hits) e = first_of e.own glyphs marks
given_by was_waived e = nothing
given_by was_cleared e = nothing
given_by (was_refused number) e = nothing

abbrev pub joined : Memory → Memory → Memory
joined m n = record { run = m.run ++ n.run; marks = m.marks ++ n.marks }

-- Any list of calls, in order: what was said of each, those that were made, the last first, and
-- what they gave, one behind the other.
pub data Performs (start : Desk)
    : List Asked → List Said → List (Call × Answer) → (gave : Memory) → Desk → Type 0 where
  begun : {d : Desk} → d ≡ start → Performs start [] [] [] nothing d
  on : {cs : List Asked} {said : List Said} {hs : List (Call × Answer)} {gave : Memory} {d : Desk}
      (c : Asked) (a : Said) (h : Option (Call × Answer)) {e : Desk}
      {cs' : List Asked} {said' : List Said} {hs' : List (Call × Answer)} {gave' : Memory}
      → Performs start cs said hs gave d → Does c a d h e
      → cs' ≡ cs ++ c ∷ [] → said' ≡ said ++ a ∷ [] → hs' ≡ in_front h hs
      → gave' ≡ joined gave (given_by a e) → Performs start cs' said' hs' gave' e

-- A paragraph is made, and nothing was called yet.
abbrev pub start : (number : ℕ) → (hand : List (Option Slip)) → (memory own : Memory) → Desk
start number hand m own = desk (still_blank number) hand (places_used hand) m own

-- Waive of each place in use, in order.
abbrev pub waives : (used : ℕ) → List Asked
waives zero = []
waives (suc n) = waives n ++ Waive (suc n) ∷ []

abbrev pub is_waived : Said → Bool
is_waived unknown = false
is_waived not_in_hand = false
is_waived no_place = false
is_waived (was_shaped glyphs marks hits) = false
is_waived (was_kept first count) = false
is_waived (has_slip number) = false
is_waived (was_paid glyphs marks hits) = false
is_waived was_waived = true
is_waived was_cleared = false
is_waived (was_refused number) = false

-- Calls from a paragraph's making, and behind them a waive of each place in use.
pub record Run (begin : Desk) (calls : List Asked) : Type 0 where
  pub said : List Said
  pub at_end : List Said
  pub made : List (Call × Answer)
  pub gave : Memory
  pub last : Desk
  pub each : length said ≡ length calls
  pub performs : Performs begin (calls ++ waives last.used) (said ++ at_end) made gave last

-- Those that were made are a history of the paragraph, and the cutting law holds of it.
abbrev pub Lawful : (number : ℕ) → List (Call × Answer) → Subject → Memory → Type 0
Lawful number hs (still_blank n) m = History number hs (is_blank n) tt
Lawful number hs (shaped_from x k) m =
    (s : Course) × History number hs (is_shaped k) s × (s.inputs ≡ x) × (s.memory ≡ m)
    × Outlasts k s

abbrev pub owed_by : Subject → ℕ
owed_by (still_blank n) = 0
owed_by (shaped_from x k) = k.owed
