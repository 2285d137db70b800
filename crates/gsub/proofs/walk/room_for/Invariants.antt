use Rattle.gsub.proofs.walk.room_for.Given as goal

abbrev pub decreases-loop-room : goal.decreases-loop-room
decreases-loop-room l = l.room
