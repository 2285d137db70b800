use Rattle.std.proofs.Common.{◌≡◌, map}
use Rattle.std.specs.Str.Parse.{digits_value}
use Rattle.parsing.specs.Items.{put_into}
use Rattle.parsing.proofs.list.numbers_of.Given as goal

-- the numbers so far are put into the places
abbrev pub invariant-loop-index : goal.invariant-loop-index
invariant-loop-index l = record { put : l.places ≡ put_into l.initial.places (map (digits_value 10) (map (λ x. x.1.now) l.yielded)) }
