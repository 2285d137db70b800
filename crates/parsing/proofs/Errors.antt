-- What an error says.
use Rattle.std.proofs.Common.{◌≡◌, Bool, true, false, cond, [], Result, Ok, Err, IfErr, refl}
use Rattle.std.specs.Result.{IsErrAnd}
use Rattle.font.specs.Told.{told, gave, refused}
use Rattle.font.specs.declared.refusal.Refusal.{Refusal}
use Rattle.font.specs.declared.refusal.Refusal.TheVariants.{RunTooLong, Label, TooManyPairs}

-- A pair is refused only where there is no room, and as one too many.
pub no_room : (r : Refusal) (room : Bool) → told {X = Unit} (Err r) ≡ cond room (gave tt) (refused 13 []) → room ≡ false
no_room RunTooLong true e = cc
no_room (Label line field) true e = cc
no_room TooManyPairs true e = cc
no_room r false e = refl

pub one_too_many : (r : Refusal) (room : Bool) → told {X = Unit} (Err r) ≡ cond room (gave tt) (refused 13 []) → r ≡ TooManyPairs
one_too_many TooManyPairs room e = refl
one_too_many r true e = cc
one_too_many r false e = cc

pub room_left : (room : Bool) → told {X = Unit} (Ok tt) ≡ cond room (gave tt) (refused 13 []) → room ≡ true
room_left true e = refl
room_left false e = cc

pub err_and : {T E : Type 0} {P Q : E → Type 0} (r : Result T E) → ((e : E) → P e → Q e) → IsErrAnd r P → IfErr r Q
err_and (Ok x) f p = tt
err_and (Err e) f p = f e p
