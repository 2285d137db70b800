-- Label files: one reading for any bytes, and what the reader's steps are in it.
use Rattle.std.proofs.Common.{◌≡◌, ℕ, ◌+◌, ◌-◌, ◌*◌, ◌<◌, ◌≤◌, Bool, true, false, cond, List, [], ◌∷◌, ◌++◌, length, get_or, drop, Some, None, Ok, Err, Option, Result, sym, refl, ap, ◌∙◌, subst, append_assoc, append-nil, arith, length-append}
use Rattle.std.specs.Str.Parse.{AllDigits, digits_value}
use Rattle.std.specs.Char.{digit_value}
use Rattle.std.specs.Option.{option_to_list}
use Rattle.std.proofs.lemmas.Int.Digits.{digits_value_push, digits_push}
use Rattle.std.proofs.lemmas.Str.Parse.{digits_value_short, numerals_by_value, tells_digits}
use Rattle.std.proofs.lemmas.List.{length_push, drop_more}
use Rattle.std.proofs.lemmas.Bool.Decides.{nat_tests}
use Rattle.font.specs.declared.refusal.Refusal.{Refusal}
use Rattle.label_font.specs.declared.table.LabelRow.{LabelRow}
use Rattle.font.specs.declared.refusal.LabelField.{LabelField}
use Rattle.font.specs.declared.refusal.LabelField.TheVariants.{Character, Glyph, Class, MarkClass, Advance}
use Rattle.label_font.specs.declared.reader.Reader.{Reader}
use Rattle.label_font.specs.LabelFile.{Place, Field, Reads, done, field, fault, start, ender, highest, lowest, past_last, after, filled, OneReading}
use Rattle.label_font.specs.LabelFont.{no_row}
use Rattle.label_font.specs.LabelReader.{fault_at, grown, behind, moved, grows, ends, stepped, first_row, step_answer, ends_at, finish_answer}
use Rattle.font.specs.Told.{Told, gave, refused, told, told_with, field_number}

-- a byte that ends a field is no digit
ender-no-digit : (c : LabelField) → digit_value (ender c) < 10 → ⊥
ender-no-digit Character h = omega arith
ender-no-digit Glyph h = omega arith
ender-no-digit Class h = omega arith
ender-no-digit MarkClass h = omega arith
ender-no-digit Advance h = omega arith

-- bytes that begin with the digits ds, and with the digits es before a byte that is none: es goes on from ds
pub goes_on : (ds es xs ys : List ℕ) (e : ℕ) → AllDigits 10 ds → (digit_value e < 10 → ⊥) → ds ++ xs ≡ es ++ e ∷ ys → (zs : List ℕ) × (es ≡ ds ++ zs) × (xs ≡ zs ++ e ∷ ys)
goes_on [] es xs ys e h n p = (es, refl, p)
goes_on (d ∷ ds) [] xs ys e h n p = let q : d ≡ e = cc in absurd (n (subst (λ u. digit_value u < 10) q h.0))
goes_on (d ∷ ds) (a ∷ es) xs ys e h n p =
    let r = goes_on ds es xs ys e h.1 n (cc) in
    let q : d ≡ a = cc in
    (r.0, cc r.1, r.2)

-- What bytes read as from a place on, behind n digits of its field that say v.
abbrev pub ReadsIn : Place → (n v : ℕ) → List ℕ → Told (List LabelRow) → Type 0
ReadsIn p n v bytes t = (ds : List ℕ) → AllDigits 10 ds → length ds ≡ n → digits_value 10 ds ≡ v → Reads p (ds ++ bytes) t

-- a digit more
value_of_digit : (b : ℕ) → 48 ≤ b → b ≤ 57 → digit_value b ≡ b - 48
value_of_digit b low high = grind (arith, nat_tests)

pub reads-digit : (p : Place) (n v b : ℕ) (rest : List ℕ) (t : Told (List LabelRow)) → 48 ≤ b → b ≤ 57 → ReadsIn p (n + 1) (v * 10 + (b - 48)) rest t → ReadsIn p n v (b ∷ rest) t
reads-digit p n v b rest t low high h ds digits len val =
    let d = value_of_digit b low high in
    let r = h (ds ++ b ∷ []) (digits_push 10 ds b digits (omega (arith, d))) (length_push ds b ∙ ap (λ m. m + 1) len) (digits_value_push 10 ds b ∙ cc) in
    subst (λ bytes. Reads p bytes t) (append_assoc ds (b ∷ []) rest) r

-- the byte that ends the field
pub reads-field : (p : Place) (n v : ℕ) (rest : List ℕ) (t : Told (List LabelRow)) → 1 ≤ n → n ≤ 7 → lowest p.next (past_last 0 p.above) ≤ v → v ≤ highest p.next → length p.above < 256
    → ReadsIn (filled p v) 0 0 rest t → ReadsIn p n v (ender p.next ∷ rest) t
reads-field p n v rest t some few low high room h ds digits len val =
    let f : Field p (ds ++ ender p.next ∷ []) v = record { digits = ds; spelt = refl; decimal = digits; some = omega arith; few = omega arith; says = sym val; from = low; to = high; room = room } in
    field (sym (append_assoc ds (ender p.next ∷ []) rest)) f (h [] tt refl refl)

-- the digits of a text are digits in each of its parts
digit-after : (ds : List ℕ) (z : ℕ) (zs : List ℕ) → AllDigits 10 (ds ++ z ∷ zs) → digit_value z < 10
digit-after [] z zs h = h.0
digit-after (d ∷ ds) z zs h = digit-after ds z zs h.1

-- Behind n digits that say v the byte b is neither a digit of the field nor its end.
pub record Stops (p : Place) (n v b : ℕ) : Type 0 where
  pub full : 48 ≤ b → b ≤ 57 → n < 7 → ⊥
  pub other : b ≡ ender p.next → 1 ≤ n → lowest p.next (past_last 0 p.above) ≤ v → v ≤ highest p.next → length p.above < 256 → ⊥

digit-byte : (b : ℕ) → digit_value b < 10 → (48 ≤ b) × (b ≤ 57)
digit-byte b h = (grind (arith, nat_tests), grind (arith, nat_tests))

no_field : (p : Place) (n v b : ℕ) (rest : List ℕ) → Stops p n v b → (ds : List ℕ) → length ds ≡ n → digits_value 10 ds ≡ v → (text more : List ℕ) (w : ℕ) (f : Field p text w) (zs : List ℕ) → f.digits ≡ ds ++ zs → b ∷ rest ≡ zs ++ ender p.next ∷ more → ⊥
no_field p n v b rest s ds len val text more w f [] e1 e2 =
    let d : f.digits ≡ ds = e1 ∙ append-nil ds in
    let l = ap length d in
    let x : w ≡ v = f.says ∙ ap (digits_value 10) d ∙ val in
    s.other (cc) (omega (arith, f.some)) (omega (arith, f.from)) (omega (arith, f.to)) f.room
no_field p n v b rest s ds len val text more w f (z ∷ zs) e1 e2 =
    let d = digit-byte z (digit-after ds z zs (subst (AllDigits 10) e1 f.decimal)) in
    let q : b ≡ z = cc in
    let l : length f.digits ≡ length ds + length (z ∷ zs) = ap length e1 ∙ length-append ds (z ∷ zs) in
    s.full (omega arith) (omega arith) (omega (arith, f.few))

-- where a field's digits lie in bytes that begin with the digits ds
digits-on : (p : Place) (ds xs text more : List ℕ) (w : ℕ) → AllDigits 10 ds → ds ++ xs ≡ text ++ more → (f : Field p text w) → (zs : List ℕ) × (f.digits ≡ ds ++ zs) × (xs ≡ zs ++ ender p.next ∷ more)
digits-on p ds xs text more w digits e f =
    goes_on ds f.digits xs more (ender p.next) digits (ender-no-digit p.next) (e ∙ ap (λ u. u ++ more) f.spelt ∙ append_assoc f.digits (ender p.next ∷ []) more)

pub reads-fault : (p : Place) (n v b : ℕ) (rest : List ℕ) → Stops p n v b → ReadsIn p n v (b ∷ rest) (refused 12 ((length p.above + 1) ∷ field_number p.next ∷ []))
reads-fault p n v b rest s ds digits len val =
    fault
    (λ e. let l : length (ds ++ b ∷ rest) ≡ 0 = ap length e in absurd (let m = length-append ds (b ∷ rest) in omega arith))
    (λ text more w e f. let g = digits-on p ds (b ∷ rest) text more w digits e f in no_field p n v b rest s ds len val text more w f g.0 g.1 g.2)

-- the end of the bytes
pub reads_end : (p : Place) (n v : ℕ) → n ≡ 0 → p.next ≡ Character → ReadsIn p n v [] (gave p.above)
reads_end p n v none first [] digits len val = done refl first
reads_end p n v none first (d ∷ ds) digits len val = absurd (omega arith)

pub reads-cut : (p : Place) (n v : ℕ) → (n ≡ 0 → p.next ≡ Character → ⊥) → ReadsIn p n v [] (refused 12 ((length p.above + 1) ∷ field_number p.next ∷ []))
reads-cut p n v h ds digits len val =
    fault
    (λ e c. h (let l : length ds ≡ 0 = ap length (sym (append-nil ds) ∙ e) in omega arith) c)
    (λ text more w e f.
    let g = digits-on p ds [] text more w digits e f in
    let l : 0 ≡ length g.0 + length (ender p.next ∷ more) = ap length g.2 ∙ length-append g.0 (ender p.next ∷ more) in
    omega arith)

-- One reading: bytes begin with one field at most.
same_end : (p : Place) (rest more ds : List ℕ) (zs : List ℕ) → AllDigits 10 (ds ++ zs) → ender p.next ∷ rest ≡ zs ++ ender p.next ∷ more → (zs ≡ []) × (rest ≡ more)
same_end p rest more ds [] h e = (refl, cc)
same_end p rest more ds (z ∷ zs) h e =
    let q : z ≡ ender p.next = cc in
    absurd (ender-no-digit p.next (subst (λ u. digit_value u < 10) q (digit-after ds z zs h)))

same-field : (p : Place) (text rest text' rest' : List ℕ) (v v' : ℕ) → text ++ rest ≡ text' ++ rest' → Field p text v → Field p text' v' → (v ≡ v') × (rest ≡ rest')
same-field p text rest text' rest' v v' e f f' =
    let g = digits-on p f.digits (ender p.next ∷ rest) text' rest' v' f.decimal (sym (append_assoc f.digits (ender p.next ∷ []) rest) ∙ ap (λ u. u ++ rest) (sym f.spelt) ∙ e) f' in
    let k = same_end p rest rest' f.digits g.0 (subst (AllDigits 10) g.1 f'.decimal) g.2 in
    let d : f'.digits ≡ f.digits = g.1 ∙ ap (λ u. f.digits ++ u) k.0 ∙ append-nil f.digits in
    (f.says ∙ ap (digits_value 10) (sym d) ∙ sym f'.says, k.1)

field-not-empty : (p : Place) (text rest : List ℕ) (v : ℕ) → text ++ rest ≡ [] → Field p text v → ⊥
field-not-empty p text rest v e f =
    let l : length (text ++ rest) ≡ 0 = ap length e in
    let m = length-append text rest in
    let n : length text ≡ length f.digits + length (ender p.next ∷ []) = ap length f.spelt ∙ length-append f.digits (ender p.next ∷ []) in
    omega arith

pub one-reading : OneReading
one-reading p bytes s t (done e first) (done e' first') = refl
one-reading p bytes s t (done e first) (field {text = text} {rest = rest} {v = v} e' f r) = absurd (field-not-empty p text rest v (sym e' ∙ e) f)
one-reading p bytes s t (done e first) (fault n _) = absurd (n e first)
one-reading p bytes s t (field {text = text} {rest = rest} {v = v} e f r) (done e' first') = absurd (field-not-empty p text rest v (sym e ∙ e') f)
one-reading p bytes s t (field {text = text} {rest = rest} {v = v} e f r) (field {text = text'} {rest = rest'} {v = v'} e' f' r') =
    let k = same-field p text rest text' rest' v v' (sym e ∙ e') f f' in
    one-reading (filled p v) rest s t r (subst (λ u. Reads (filled p v) u t) (sym k.1) (subst (λ u. Reads (filled p u) rest' t) (sym k.0) r'))
one-reading p bytes s t (field {text = text} {rest = rest} {v = v} e f r) (fault _ n) = absurd (n text rest v e f)
one-reading p bytes s t (fault n _) (done e first) = absurd (n e first)
one-reading p bytes s t (fault _ n) (field {text = text} {rest = rest} {v = v} e f r) = absurd (n text rest v e f)
one-reading p bytes s t (fault _ n) (fault _ n') = refl

-- The reader stands at a place.
abbrev pub at : List LabelRow → Reader → Place
at above r = record { above = above; row = r.row; next = r.next }

-- It knows its line, and the lowest glyph of its row.
pub record Knows (above : List LabelRow) (r : Reader) : Type 0 where
  pub line : r.line ≡ length above + 1
  pub lowest : r.lowest ≡ past_last 0 above
  pub few : r.count ≤ 7

-- what is left of the file, from the reader on
abbrev pub ReadsFrom : List LabelRow → Reader → List ℕ → Told (List LabelRow) → Type 0
ReadsFrom above r bytes t = ReadsIn (at above r) r.count r.value bytes t

past_last-push : (n : ℕ) (rows more : List LabelRow) → past_last n (rows ++ more) ≡ past_last (past_last n rows) more
past_last-push n [] more = refl
past_last-push n (row ∷ rows) more = past_last-push (row.glyph + 1) rows more

-- the rows above are as before, and then those that the field ended
after-above : (c : LabelField) (above : List LabelRow) (row : LabelRow) (v : ℕ) → (after c above row v).above ≡ above ++ (after c [] row v).above
after-above Character above row v = sym (append-nil above)
after-above Glyph above row v = sym (append-nil above)
after-above Class above row v = sym (append-nil above)
after-above MarkClass above row v = sym (append-nil above)
after-above Advance above row v = refl

after_same : (c : LabelField) (above : List LabelRow) (row : LabelRow) (v : ℕ) → after c above row v ≡ record { above = above ++ (after c [] row v).above; row = (after c [] row v).row; next = (after c [] row v).next }
after_same Character above row v = λ i. record { above = after-above Character above row v i; row = (after Character [] row v).row; next = Glyph }
after_same Glyph above row v = λ i. record { above = after-above Glyph above row v i; row = (after Glyph [] row v).row; next = Class }
after_same Class above row v = λ i. record { above = after-above Class above row v i; row = (after Class [] row v).row; next = MarkClass }
after_same MarkClass above row v = λ i. record { above = after-above MarkClass above row v i; row = (after MarkClass [] row v).row; next = Advance }
after_same Advance above row v = refl

one-row : (c : LabelField) (row : LabelRow) (v : ℕ) → option_to_list (first_row (after c [] row v).above) ≡ (after c [] row v).above
one-row Character row v = refl
one-row Glyph row v = refl
one-row Class row v = refl
one-row MarkClass row v = refl
one-row Advance row v = refl

-- A byte takes the reader from r to r' and ends these rows: what follows reads the same.
pub record Turn (above : List LabelRow) (r : Reader) (b : ℕ) (ended : List LabelRow) (r' : Reader) : Type 0 where
  pub knows : Knows (above ++ ended) r'
  pub reads : (rest : List ℕ) (t : Told (List LabelRow)) → ReadsFrom (above ++ ended) r' rest t → ReadsFrom above r (b ∷ rest) t

turn-digit : (above : List LabelRow) (r : Reader) (b : ℕ) → Knows above r → grows r b ≡ true → Turn above r b [] (grown r (b - 48))
turn-digit above r b k g =
    let low : 48 ≤ b = grind (arith, nat_tests) in
    let high : b ≤ 57 = grind (arith, nat_tests) in
    let few : r.count < 7 = grind (arith, nat_tests) in
    let same = append-nil above in
    record {
      knows = record { line = k.line ∙ ap (λ u. length u + 1) (sym same); lowest = k.lowest ∙ ap (past_last 0) (sym same); few = omega arith };
      reads = λ rest t h. reads-digit (at above r) r.count r.value b rest t low high (subst (λ u. ReadsFrom u (grown r (b - 48)) rest t) same h);
    }

turn-field : (above : List LabelRow) (r : Reader) (b : ℕ) → Knows above r → ends r b ≡ true → Turn above r b (behind r).above (moved r (behind r))
turn-field above r b k e =
    let is : b ≡ ender r.next = grind (arith, nat_tests) in
    let some : 1 ≤ r.count = grind (arith, nat_tests) in
    let low : lowest r.next r.lowest ≤ r.value = grind (arith, nat_tests) in
    let high : r.value ≤ highest r.next = grind (arith, nat_tests) in
    let line : r.line ≤ 256 = grind (arith, nat_tests) in
    let room : length above < 256 = omega (arith, k.line) in
    record {
      knows = record {
        line = simp length-append (omega (arith, k.line));
        lowest = ap (λ u. past_last u (behind r).above) k.lowest ∙ sym (past_last-push 0 above (behind r).above);
        few = omega arith;
      };
      reads = λ rest t h.
          subst (λ u. ReadsFrom above r (u ∷ rest) t) (sym is)
          (reads-field (at above r) r.count r.value rest t some k.few (subst (λ u. lowest r.next u ≤ r.value) k.lowest low) high room
          (subst (λ u. ReadsIn u 0 0 rest t) (sym (after_same r.next above r.row r.value)) h));
    }

-- an accepted byte
turn_by : (above : List LabelRow) (r : Reader) (b : ℕ) → Knows above r → (g e : Bool) → grows r b ≡ g → ends r b ≡ e → (o : Option LabelRow)
    → Ok o ≡ cond g (Ok None) (cond e (Ok (first_row (behind r).above)) (Err (fault_at r))) → Turn above r b (option_to_list o) (cond g (grown r (b - 48)) (cond e (moved r (behind r)) r))
turn_by above r b k true e p q o s = let n : o ≡ None = cc in subst (λ u. Turn above r b (option_to_list u) (grown r (b - 48))) (sym n) (turn-digit above r b k p)
turn_by above r b k false true p q o s =
    let n : o ≡ first_row (behind r).above = cc in
    subst (λ u. Turn above r b u (moved r (behind r))) (sym (ap option_to_list n ∙ one-row r.next r.row r.value)) (turn-field above r b k q)
turn_by above r b k false false p q o s = absurd cc

pub turn : (above : List LabelRow) (r : Reader) (b : ℕ) → Knows above r → (o : Option LabelRow) → Ok o ≡ step_answer r b → (r' : Reader) → r' ≡ stepped r b → Turn above r b (option_to_list o) r'
turn above r b k o s r' e = subst (λ u. Turn above r b (option_to_list o) u) (sym e) (turn_by above r b k (grows r b) (ends r b) refl refl o s)

-- a byte ends a row only where the table has room for it
pub room : (above : List LabelRow) (r : Reader) (b : ℕ) (row : LabelRow) → Knows above r → Ok (Some row) ≡ step_answer r b → length above < 256
room above r b row k s = grind (arith, nat_tests)

-- a refused byte
fault-by : (above : List LabelRow) (r : Reader) (b : ℕ) (rest : List ℕ) → Knows above r → (g e : Bool) → grows r b ≡ g → ends r b ≡ e → (x : Refusal)
    → Err x ≡ cond g (Ok None) (cond e (Ok (first_row (behind r).above)) (Err (fault_at r))) → ReadsFrom above r (b ∷ rest) (told (Err x))
fault-by above r b rest k true e p q x s ds digits len val = absurd cc
fault-by above r b rest k false true p q x s ds digits len val = absurd cc
fault-by above r b rest k false false p q x s ds digits len val =
    let n : x ≡ fault_at r = cc in
    let stops : Stops (at above r) r.count r.value b = record {
      full = λ low high few. let m = digits_value_short (numerals_by_value (AllDigits 10) tells_digits) ds 6 digits (omega arith) in let v : r.value < 1000000 = omega arith in grind (arith, nat_tests);
      other = λ is some low high room.
          let line : r.line ≤ 256 = omega (arith, k.line) in
          let least : lowest r.next r.lowest ≤ r.value = subst (λ u. lowest r.next u ≤ r.value) (sym k.lowest) low in
          grind (arith, nat_tests);
    } in
    subst (λ u. Reads (at above r) (ds ++ b ∷ rest) (told (Err u))) (sym n)
    (subst (λ u. Reads (at above r) (ds ++ b ∷ rest) (refused 12 (u ∷ field_number r.next ∷ []))) (sym k.line) (reads-fault (at above r) r.count r.value b rest stops ds digits len val))

pub faulty : (above : List LabelRow) (r : Reader) (b : ℕ) (rest : List ℕ) → Knows above r → (x : Refusal) → Err x ≡ step_answer r b → ReadsFrom above r (b ∷ rest) (told (Err x))
faulty above r b rest k x s = fault-by above r b rest k (grows r b) (ends r b) refl refl x s

-- The reader at the start of a file.
abbrev pub fresh : Reader
fresh = record { next = Character; count = 0; value = 0; row = no_row; line = 1; lowest = 0 }

pub knows_start : (above : List LabelRow) (r : Reader) → above ≡ [] → r ≡ fresh → Knows above r
knows_start above r a e = subst (λ u. Knows u r) (sym a) (subst (λ u. Knows [] u) (sym e) (record { line = refl; lowest = refl; few = omega arith }))

pub reads-start : (above : List LabelRow) (r : Reader) (bytes : List ℕ) (t : Told (List LabelRow)) → above ≡ [] → r ≡ fresh → ReadsFrom above r bytes t → Reads start bytes t
reads-start above r bytes t a e h = subst (λ u. ReadsFrom u fresh bytes t) a (subst (λ u. ReadsFrom above u bytes t) e h) [] tt refl refl

-- the loop's step: rows are those above and what the byte ended
pub again : (bytes : List ℕ) (i : ℕ) → i < length bytes → (above : List LabelRow) (r : Reader) → ((t : Told (List LabelRow)) → ReadsFrom above r (drop i bytes) t → Reads start bytes t)
    → (ended : List LabelRow) (r' : Reader) → Turn above r (get_or bytes i 0) ended r' → (rows : List LabelRow) → rows ≡ above ++ ended
    → Knows rows r' × ((t : Told (List LabelRow)) → ReadsFrom rows r' (drop (i + 1) bytes) t → Reads start bytes t)
again bytes i h above r left ended r' turned rows e = (
  subst (λ u. Knows u r') (sym e) turned.knows,
  λ t f. left t (subst (λ u. ReadsFrom above r u t) (sym (drop_more bytes i 0 h)) (turned.reads (drop (i + 1) bytes) t (subst (λ u. ReadsFrom u r' (drop (i + 1) bytes) t) e f))),
)

-- the loop's end
ends-none : (c : LabelField) (n : ℕ) → ends_at c n ≡ true → (c ≡ Character) × (n ≡ 0)
ends-none Character n e = (refl, grind (arith, nat_tests))
ends-none Glyph n e = absurd cc
ends-none Class n e = absurd cc
ends-none MarkClass n e = absurd cc
ends-none Advance n e = absurd cc

ends_some : (c : LabelField) (n : ℕ) → ends_at c n ≡ false → c ≡ Character → n ≡ 0 → ⊥
ends_some c n e first none =
    let f : ends_at Character n ≡ false = subst (λ u. ends_at u n ≡ false) first e in
    grind (arith, nat_tests)

finish-by : (above : List LabelRow) (r : Reader) → Knows above r → (f : Bool) → ends_at r.next r.count ≡ f → ReadsFrom above r [] (told_with above (cond {A = Result Unit Refusal} f (Ok tt) (Err (fault_at r))))
finish-by above r k true p = reads_end (at above r) r.count r.value (ends-none r.next r.count p).1 (ends-none r.next r.count p).0
finish-by above r k false p =
    subst (λ u. ReadsFrom above r [] (refused 12 (u ∷ field_number r.next ∷ []))) (sym k.line)
    (reads-cut (at above r) r.count r.value (λ none first. ends_some r.next r.count p first none))

pub finished : (above : List LabelRow) (r : Reader) → Knows above r → ReadsFrom above r [] (told_with above (finish_answer r))
finished above r k = finish-by above r k (ends_at r.next r.count) refl
