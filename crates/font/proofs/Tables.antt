-- The memory of a table, item by item.
use Rattle.std.proofs.Common.{◌≡◌, ℕ, suc, ◌+◌, ◌-◌, ◌<◌, List, [], ◌∷◌, ◌++◌, length, set, replicate, sym, refl, ap, ◌∙◌, append_assoc, arith}
use Rattle.std.proofs.lemmas.List.{set_at, length_push}
use Rattle.font.specs.Table.{table_of}

-- an item takes the place of the first blank
pub table_of-push : {T : Type 0} (n : ℕ) (blank : T) (items : List T) (item : T) → length items < n → set (table_of n blank items) (length items) item ≡ table_of n blank (items ++ item ∷ [])
table_of-push n blank items item h =
    let m : n - length items ≡ suc (n - (length items + 1)) = omega arith in
    ap (λ k. set (items ++ replicate k blank) (length items) item) m
    ∙ set_at items blank (replicate (n - (length items + 1)) blank) item (length items) refl
    ∙ sym (append_assoc items (item ∷ []) (replicate (n - (length items + 1)) blank))
    ∙ ap (λ k. (items ++ item ∷ []) ++ replicate (n - k) blank) (sym (length_push items item))
