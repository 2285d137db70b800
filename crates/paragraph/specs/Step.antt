-- What each of the five calls answers, and what it leaves.
use Rattle.std.specs.Prelude.{◌≡◌, ℕ, ◌-◌, ◌+◌, Bool, cond, not, ◌&&◌, ◌||◌, List, length, take, ◌==◌, nat_le, nat_lt, slice_index, slice_range}
use Rattle.model.specs.declared.Glyph.{Glyph}
use Rattle.model.specs.Shaping.{Outcome, refused, shaped}
use Rattle.pick.specs.declared.line.Stretch.{Stretch}
use Rattle.pick.specs.Lines.{stretch}
use Rattle.paragraph.specs.declared.shaped.Shaped.{Shaped}
use Rattle.paragraph.specs.declared.slip.Slip.{Slip}
use Rattle.paragraph.specs.Calls.{Answer, Call, Comes, Inputs, Memory, Paragraph, clear, denied, done, first_refusal, gives, is_blank, is_shaped, kept, left_by, line, owes, paid, pay, returned, shape, unpaid, waive}

-- SHAPE
abbrev pub shape_answer : Outcome → Answer
shape_answer (refused n) = denied n
shape_answer (shaped r) = done

abbrev pub shape_leaves : (number : ℕ) → Inputs → Outcome → Paragraph
shape_leaves number x (refused n) = is_blank number
shape_leaves number x (shaped r) =
    is_shaped (record { number = number; length = length x.text; count = length r.run; hits = r.hits; limit = x.limit; owed = 0 })

-- LINE. The paragraph's glyphs and marks are those that its count and its length say.
abbrev pub glyphs_of : Shaped → Memory → List Glyph
glyphs_of k m = take k.count m.run

abbrev pub marks_of : Shaped → Memory → List ℕ
marks_of k m = take k.length m.marks

-- A place is free where its mark is 0, or at the text's end.
abbrev pub free : Shaped → Memory → (c : ℕ) → Bool
free k m c = c == k.length || (nat_lt c k.length && slice_index m.marks c == 0)

abbrev pub too_small : Shaped → Memory → Bool
too_small k m = nat_lt 65535 (length m.run) || (nat_lt (length m.run) k.count || nat_lt (length m.marks) k.length)

-- The records of the characters from a to before b.
abbrev pub records : Shaped → Memory → (a b : ℕ) → Stretch
records k m a b = stretch (λ g. g.cluster) a b (glyphs_of k m)

abbrev pub line_answer : Shaped → Memory → (a b : ℕ) → Answer
line_answer k m a b =
    cond (nat_le b a || nat_lt k.length b) (denied 9)
    (cond (too_small k m) (denied 6)
    (cond (free k m a && free k m b) (gives (kept a b (records k m a b).first (records k m a b).count))
    (cond (k.owed == 65535) (denied 11)
    (owes (record { number = k.number; first = a; last = b })))))

-- PAY AND WAIVE. A slip of another number, and any slip where none is owed.
abbrev pub foreign : Shaped → Slip → Bool
foreign k s = not (s.number == k.number) || k.owed == 0

abbrev pub wrong_ends : Inputs → Slip → Bool
wrong_ends x s = nat_le s.last s.first || nat_lt (length x.text) s.last

abbrev pub characters : Inputs → Slip → List ℕ
characters x s = slice_range x.text s.first s.last

-- Pay tests 10 and 9, then does as shape, by the kept hit limit.
abbrev pub Pays : Inputs → Shaped → Slip → (own : Memory) → Outcome → Type 0
Pays x k s own o =
    cond (foreign k s) (o ≡ refused 10)
    (cond (wrong_ends x s) (o ≡ refused 9)
    (Comes x k.limit (characters x s) own o))

abbrev pub pay_leaves : Inputs → Shaped → Slip → (own : Memory) → Outcome → Memory
pay_leaves x k s own o =
    cond (foreign k s) own
    (cond (wrong_ends x s) own
    (left_by (first_refusal x k.limit (characters x s) own) o own))

abbrev pub pay_answer : Slip → (own : Memory) → Outcome → Answer
pay_answer s own (refused n) = unpaid n s own
pay_answer s own (shaped r) = gives (paid s.first s.last (length r.run) r.hits own)

abbrev pub waive_answer : Shaped → Slip → Answer
waive_answer k s = cond (foreign k s) (returned 10 s) done

-- Line, pay and waive change the count of slips owed, and nothing else.
abbrev pub owing : Shaped → ℕ → Shaped
owing k n = record { number = k.number; length = k.length; count = k.count; hits = k.hits; limit = k.limit; owed = n }

abbrev pub after : Shaped → Answer → Shaped
after k done = owing k (k.owed - 1)
after k (gives (kept a b first count)) = k
after k (gives (paid a b count hits own)) = owing k (k.owed - 1)
after k (owes s) = owing k (k.owed + 1)
after k (denied n) = k
after k (returned n s) = k
after k (unpaid n s own) = k

-- With inputs x and the paragraph's memory m, a call on a paragraph gets an answer, and leaves a paragraph and that memory. A blank paragraph knows only shape, and a shaped one all but shape.
abbrev pub Step : Inputs → Memory → Paragraph → Call → Answer → Paragraph → Memory → Type 0
Step x m (is_blank n) shape r p m' =
    (o : Outcome) × Comes x x.limit x.text m o × (r ≡ shape_answer o) × (p ≡ shape_leaves n x o) × (m' ≡ left_by (first_refusal x x.limit x.text m) o m)
Step x m (is_blank n) (line a b) r p m' = ⊥
Step x m (is_blank n) (pay s own) r p m' = ⊥
Step x m (is_blank n) (waive s) r p m' = ⊥
Step x m (is_blank n) clear r p m' = ⊥
Step x m (is_shaped k) shape r p m' = ⊥
Step x m (is_shaped k) (line a b) r p m' = (r ≡ line_answer k m a b) × (p ≡ is_shaped (after k r)) × (m' ≡ m)
Step x m (is_shaped k) (pay s own) r p m' =
    (o : Outcome) × Pays x k s own o × (r ≡ pay_answer s (pay_leaves x k s own o) o) × (p ≡ is_shaped (after k r)) × (m' ≡ m)
Step x m (is_shaped k) (waive s) r p m' = (r ≡ waive_answer k s) × (p ≡ is_shaped (after k r)) × (m' ≡ m)
Step x m (is_shaped k) clear r p m' =
    (r ≡ cond (nat_lt 0 k.owed) (denied 11) done) × (p ≡ cond (nat_lt 0 k.owed) (is_shaped k) (is_blank k.number)) × (m' ≡ m)
