-- By computation.
use Rattle.std.proofs.Common.{refl}
use Rattle.layout.specs.Examples.{Examples}

pub examples : Examples
examples = record {
  second_glyph = refl;
  not_listed = refl;
  in_the_first_range = refl;
  in_the_second_range = refl;
  between_the_ranges = refl;
  no_fault = refl;
  wrong_start_index = refl;
  no_class_fault = refl;
  before_the_list = refl;
  first_listed = refl;
  last_listed = refl;
  past_the_list = refl;
  no_ranges_fault = refl;
  last_of_a_range = refl;
  next_range = refl;
  past_the_ranges = refl;
  no_definition = refl;
}
