-- `heap::climb_to` ends: the place falls at each call.
use Rattle.heap.proofs.+climb_to.Given as goal

abbrev pub decreases-climb_to : goal.decreases-climb_to
decreases-climb_to l = l.place
