use Rattle.std.proofs.Common.{◌++◌, take, sym, ◌∙◌, subst₂, arith}
use Rattle.std.proofs.lemmas.List.{with_items_is}
use Rattle.paragraph.specs.Whole.{IsWritten}
use Rattle.paragraph.proofs.perform.Copied.add.Goals as goal

pub returns : goal.returns
returns c = λ gave old h. (
  subst₂ (λ f t. IsWritten c.copy_behind-self.result (gave.run ++ take c.args.glyphs f) old.run t) c.as_slice.ensures.value (sym (with_items_is c.args.copies.now.run c.copy_behind-self.new.to (omega arith)))
      (c.copy_behind-self.ensures gave.run old.run (h.0.0, c.as_mut_slice-run.ensures.value ∙ h.0.1)),
  subst₂ (λ f t. IsWritten c.copy_behind-self-2.result (gave.marks ++ take c.args.marks f) old.marks t) c.as_slice-2.ensures.value (sym (with_items_is c.args.copies.now.marks c.copy_behind-self-2.new.to (omega arith)))
      (c.copy_behind-self-2.ensures gave.marks old.marks (h.1.0, c.as_mut_slice-bytes.ensures.value ∙ h.1.1)),
)
