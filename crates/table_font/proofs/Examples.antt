-- By computation.
use Rattle.std.proofs.Common.{refl}
use Rattle.table_font.specs.Examples.{Examples}

pub examples : Examples
examples = record {
  first_of_a_group = refl;
  last_of_a_group = refl;
  past_the_group = refl;
  glyph_65535 = refl;
  largest_glyph = refl;
  glyph_65536 = refl;
  no_fault = refl;
  component = refl;
  class_above_4 = refl;
  not_listed = refl;
  mark_class = refl;
  no_mark_class = refl;
  in_set_1 = refl;
  not_in_set_0 = refl;
  no_set_2 = refl;
  no_table = refl;
  no_classes = refl;
  two_metrics = refl;
  first_advance = refl;
  past_the_metrics = refl;
  no_metric = refl;
  metric_outside = refl;
}
