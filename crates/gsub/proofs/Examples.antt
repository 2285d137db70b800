-- By computation.
use Rattle.std.proofs.Common.{refl}
use Rattle.gsub.specs.Examples.{Examples, FurtherExamples}
use Rattle.gsub.specs.Rules.{array_at, counted_array}

pub examples : Examples
unfolding array_at counted_array
examples = record {
  no_fault = refl;
  delta = refl;
  not_covered = refl;
  ligature = refl;
  flag = refl;
  second_alternate = refl;
  no_third_alternate = refl;
  chain = refl;
  class_test = refl;
  other_class = refl;
  backward = refl;
  forward = refl;
  reverse = refl;
  before = refl;
  extension = refl;
  mark_set = refl;
  by_coverages = refl;
  second_input = refl;
  first_input = refl;
  missing = refl;
}

pub further : FurtherExamples
unfolding array_at counted_array
further = record {
  no_fault = refl;
  first_entry = refl;
  both_subtables = refl;
  largest_glyph = refl;
  no_alternate_0 = refl;
  two_rules = refl;
  by_classes = refl;
  backtrack_class = refl;
  no_backtrack_class = refl;
  input_class = refl;
  no_input_class = refl;
  lookahead_class = refl;
  no_lookahead_class = refl;
  no_set = refl;
  at_the_index = refl;
  behind = refl;
  not_behind = refl;
  ahead = refl;
  not_ahead = refl;
  far_subtable = refl;
  far_fault = refl;
}
