use Rattle.paragraph.proofs.perform.blank_call.Goals as goal

pub returns-in-Shape : goal.returns-in-Shape
returns-in-Shape g c = λ advances hand used own. rw c.in-Shape.is (c.shape_call.ensures advances hand used own)
