-- Arrays of fields, one by one.
use Rattle.std.proofs.Common.{◌≡◌, ℕ, zero, suc, ◌+◌, ◌*◌, ◌<◌, ◌≤◌, Bool, List, [], ◌∷◌, ◌++◌, drop, length, map, get_or, slice_get, Some, None, refl, sym, ap, ◌∙◌, arith}
use Rattle.std.proofs.lemmas.List.{get_or_past, length-map}
use Rattle.layout.specs.Bytes.{u16_at}
use Rattle.model.specs.Lookups.{Candidate}
use Rattle.gsub.specs.Candidates.{Test, fields, records_from, rules_of}
use Rattle.candidates.specs.declared.found.Record.{Record}
use Rattle.candidates.specs.Actions.{record_of}

pub length-fields : (t : List ℕ) (i n : ℕ) → length (fields t i n) ≡ n
length-fields t i zero = refl
length-fields t i (suc n) = ap suc (length-fields t (i + 2) n)

fields-suc : (t : List ℕ) (i n : ℕ) → fields t i (suc n) ≡ fields t i n ++ u16_at t (i + 2 * n) ∷ []
fields-suc t i zero = let e : i ≡ i + 2 * 0 = omega arith in ap (λ b. u16_at t b ∷ []) e
fields-suc t i (suc n) =
    let e : (i + 2) + 2 * n ≡ i + 2 * suc n = omega arith in
    ap (λ l. u16_at t i ∷ l) (fields-suc t (i + 2) n ∙ ap (λ b. fields t (i + 2) n ++ u16_at t b ∷ []) e)

pub fields-more : (t : List ℕ) (i n : ℕ) → fields t i (n + 1) ≡ fields t i n ++ u16_at t (i + 2 * n) ∷ []
fields-more t i n = let e : n + 1 ≡ suc n = omega arith in ap (fields t i) e ∙ fields-suc t i n

pub length-records : (t : List ℕ) (i n : ℕ) → length (records_from t i n) ≡ n
length-records t i zero = refl
length-records t i (suc n) = ap suc (length-records t (i + 4) n)

abbrev record_at : (t : List ℕ) → (i : ℕ) → Record
record_at t i = record { index = u16_at t i; lookup = u16_at t (i + 2) }

pub records-get : (t : List ℕ) (i n k : ℕ) → k < n → slice_get (map record_of (records_from t i n)) k ≡ Some (record_at t (i + 4 * k))
records-get t i zero k h = absurd (omega arith)
records-get t i (suc n) zero h = let e : i ≡ i + 4 * 0 = omega arith in ap (λ b. Some (record_at t b)) e
records-get t i (suc n) (suc k) h =
    let e : (i + 4) + 4 * k ≡ i + 4 * suc k = omega arith in
    records-get t (i + 4) n k (omega arith) ∙ ap (λ b. Some (record_at t b)) e

pub records-past : (t : List ℕ) (i n k : ℕ) → n ≤ k → slice_get (map record_of (records_from t i n)) k ≡ None
records-past t i zero k h = refl
records-past t i (suc n) zero h = absurd (omega arith)
records-past t i (suc n) (suc k) h = records-past t (i + 4) n k (omega arith)

-- what entry k of an array asks
pub tests-at : (test : Test) (t : List ℕ) (i n k : ℕ) (d : ℕ → Bool) → k < n → get_or (map test (fields t i n)) k d ≡ test (u16_at t (i + 2 * k))
tests-at test t i zero k d h = absurd (omega arith)
tests-at test t i (suc n) zero d h = let e : i ≡ i + 2 * 0 = omega arith in ap (λ b. test (u16_at t b)) e
tests-at test t i (suc n) (suc k) d h =
    let e : (i + 2) + 2 * k ≡ i + 2 * suc k = omega arith in
    tests-at test t (i + 2) n k d (omega arith) ∙ ap (λ b. test (u16_at t b)) e

pub tests-past : (test : Test) (t : List ℕ) (i n k : ℕ) (d : ℕ → Bool) → n ≤ k → get_or (map test (fields t i n)) k d ≡ d
tests-past test t i n k d h = get_or_past (map test (fields t i n)) k d (simp (length-map, length-fields) h)

pub length-tests : (test : Test) (t : List ℕ) (i n : ℕ) → length (map test (fields t i n)) ≡ n
length-tests test t i n = simp (length-map, length-fields) refl

-- rule k of a set
pub rules-at : (make : ℕ → Candidate) (q : ℕ) (t : List ℕ) (i n k : ℕ) → k < n → drop k (rules_of make q (fields t i n)) ≡ make (q + u16_at t (i + 2 * k)) ∷ drop (k + 1) (rules_of make q (fields t i n))
rules-at make q t i zero k h = absurd (omega arith)
rules-at make q t i (suc n) zero h = let e : i ≡ i + 2 * 0 = omega arith in ap (λ b. make (q + u16_at t b) ∷ rules_of make q (fields t (i + 2) n)) e
rules-at make q t i (suc n) (suc k) h =
    let e : (i + 2) + 2 * k ≡ i + 2 * suc k = omega arith in
    let d : k + 1 ≡ suc k = omega arith in
    let d' : suc k + 1 ≡ suc (suc k) = omega arith in
    rules-at make q t (i + 2) n k (omega arith)
    ∙ ap (λ b. make (q + u16_at t b) ∷ drop (k + 1) (rules_of make q (fields t (i + 2) n))) e
    ∙ ap (λ m. make (q + u16_at t (i + 2 * suc k)) ∷ drop m (rules_of make q (fields t (i + 2) n))) d
    ∙ ap (λ m. make (q + u16_at t (i + 2 * suc k)) ∷ drop m (rules_of make q (fields t i (suc n)))) (sym d')

pub length-rules : (make : ℕ → Candidate) (q : ℕ) (t : List ℕ) (i n : ℕ) → length (rules_of make q (fields t i n)) ≡ n
length-rules make q t i zero = refl
length-rules make q t i (suc n) = ap suc (length-rules make q t (i + 2) n)
