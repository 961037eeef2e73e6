-- What a C program reads off the letters is what the call wrote: whom each goes to, its action, and how many records of the row for gossip are its. The words of a record are read back as the record.
-- Assumes nothing.
use Rattle.std.specs.Prelude.{◌≡◌, List, [], ◌∷◌, ℕ, get_or}
use Rattle.address.specs.Here.{Addr}
use Rattle.node.specs.declared.Letter.{Letter}
use Rattle.cwords.specs.Reading.{address_of, action_of}

-- as swim.h has it: three words for the target, seven for the action, and the count
abbrev pub target_of : List ℕ → Addr
target_of w = address_of (get_or w 0 0) (get_or w 1 0) (get_or w 2 0)

abbrev pub seven_of : List ℕ → List ℕ
seven_of w = get_or w 3 0 ∷ get_or w 4 0 ∷ get_or w 5 0 ∷ get_or w 6 0 ∷ get_or w 7 0 ∷ get_or w 8 0 ∷ get_or w 9 0 ∷ []

abbrev pub count_of : List ℕ → ℕ
count_of w = get_or w 10 0

-- families of 8 bits and ports of 16, as every address of a program's is
pub record ReadBack (l : Letter) (w : List ℕ) : Type 0 where
  pub target : target_of w ≡ l.target
  pub action : action_of (seven_of w) ≡ l.action
  pub count : count_of w ≡ l.count
