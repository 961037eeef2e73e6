-- What a C program reads off the letters is what the call wrote: whom each goes to, its action, and how many records of the row for gossip are its. The words of a record are read back as the record.
-- Assumes nothing.
use Rattle.std.specs.Prelude.{◌≡◌, refl, [], ◌∷◌, ℕ}
use Rattle.std.proofs.Common.{ap, ◌∙◌}
use Rattle.address.specs.Here.{Addr}
use Rattle.types.specs.declared.Action.{Action}
use Rattle.types.specs.declared.Action.TheVariants.{Ping, PingReq, Ack}
use Rattle.types.specs.declared.Optional.TheVariants.{Absent, Given}
use Rattle.node.specs.declared.Letter.{Letter}
use Rattle.cwords.specs.Reading.{action_of}
use Rattle.cwords.specs.Writing.{Narrow, first_word, action_then, action_words, letter_words}
use Rattle.cwords.specs.Back.{address_back, NarrowAction, action_back}
use Rattle.host_promises.specs.Letters.{seven_of, count_of, ReadBack}

seven_is : (t : Addr) (a : Action) (n : ℕ) → seven_of (first_word t ∷ t.high ∷ t.low ∷ action_then a (n ∷ [])) ≡ action_then a []
seven_is t (Ping f Absent) n = refl
seven_is t (Ping f (Given b)) n = refl
seven_is t (PingReq f s) n = refl
seven_is t (Ack f Absent) n = refl
seven_is t (Ack f (Given b)) n = refl

count_is : (t : Addr) (a : Action) (n : ℕ) → count_of (first_word t ∷ t.high ∷ t.low ∷ action_then a (n ∷ [])) ≡ n
count_is t (Ping f Absent) n = refl
count_is t (Ping f (Given b)) n = refl
count_is t (PingReq f s) n = refl
count_is t (Ack f Absent) n = refl
count_is t (Ack f (Given b)) n = refl

pub letter-back : (l : Letter) → Narrow l.target → NarrowAction l.action → ReadBack l (letter_words l)
unfolding letter_words action_words
letter-back l t a =
    record {
      target = address_back l.target t;
      action = ap action_of (seven_is l.target l.action l.count) ∙ action_back l.action a;
      count = count_is l.target l.action l.count;
    }
