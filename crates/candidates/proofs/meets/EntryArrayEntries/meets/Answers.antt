use Rattle.std.proofs.Common.{◌≡◌, ℕ, Bool, false, nat_lt, sym, ap, ◌∙◌, arith}
use Rattle.std.proofs.lemmas.Bool.Decides.{nat_tests}
use Rattle.candidates.specs.Asked.{test_of}
use Rattle.candidates.proofs.Fields.{tests-at, tests-past}
use Rattle.candidates.proofs.meets.EntryArrayEntries.meets.Goals as goal

pub returns-then-k-self : goal.returns-then-k-self
returns-then-k-self c =
    let e = c.args.self.now in
    c.entry_meets.ensures ∙ ap (λ (f : ℕ → Bool). f c.args.glyph) (sym (tests-at (test_of e.part.now e.asks) e.part.now e.array.at e.array.count c.args.k (λ g. false) (omega arith)))

pub returns-else-k-self : goal.returns-else-k-self
returns-else-k-self c =
    let e = c.args.self.now in
    let no : nat_lt c.args.k e.array.count ≡ false = grind (arith, nat_tests) in
    no ∙ ap (λ (f : ℕ → Bool). f c.args.glyph) (sym (tests-past (test_of e.part.now e.asks) e.part.now e.array.at e.array.count c.args.k (λ g. false) (omega arith)))
