-- Worked images, one of each version, byte by byte: the mark, the version, the own address, the count, the places, the position.
-- Assumes nothing.
use Rattle.std.specs.Prelude.{false, List, [], ◌∷◌, ◌++◌, ℕ, replicate}
use Rattle.model.specs.declared.State.TheVariants.{Alive, Pending, Suspected}
use Rattle.model.specs.declared.Settings.{Settings}
use Rattle.model.specs.Calls.{Created}
use Rattle.address.specs.Here.{Addr, here}
use Rattle.image.specs.Image.{Saved}
use Rattle.image.specs.Versions.{versions}
use Rattle.saving.specs.Saving.{restore}

abbrev v4 : ℕ → ℕ → Addr
v4 ip port = record { family = 4; port = port; high = 0; low = ip }

abbrev v6 : ℕ → ℕ → ℕ → Addr
v6 high low port = record { family = 6; port = port; high = high; low = low }

-- 10.0.0.1:7000 with a peer that is Suspected at 258, one that is Pending at 2^64 − 1, itself Alive at 0; the second of them is probed next
abbrev pub three : Saved Addr
three =
    record {
      own = v4 167772161 7000;
      rows =
          record { addr = v4 167772162 7000; state = Suspected; number = 258 }
          ∷ record { addr = v4 0 1; state = Pending; number = 18446744073709551615 }
          ∷ record { addr = v4 167772161 7000; state = Alive; number = 0 }
          ∷ [];
      position = 1;
    }

-- 10.0.0.1:7000 with [2001:db8::1]:7000, which is Suspected at 258, itself Alive at 0; the second is probed next
abbrev pub mixed : Saved Addr
mixed =
    record {
      own = v4 167772161 7000;
      rows =
          record { addr = v6 2306139568115548160 1 7000; state = Suspected; number = 258 }
          ∷ record { addr = v4 167772161 7000; state = Alive; number = 0 }
          ∷ [];
      position = 1;
    }

-- "for restore, in this order, 14 .., 15 .., 16 .., then 1": each beside what comes after it, with settings that are out of range
abbrev pub outside : Settings
outside = record { ping_interval = 1; ping_timeout = 1; ping_req_timeout = 1; suspect_timeout = 1; ping_req_group_size = 1; send_constant = 3; max_selected = 6; max_size = 0; collect = false; remember = false }

abbrev pub told : List ℕ → Created Addr
told bytes = restore here versions bytes outside

-- of version 2: an own address with an empty list, and [::]:0 with one that is listed Alive at 0
abbrev pub alone : List ℕ → List ℕ
alone own = (77 ∷ 66 ∷ 82 ∷ 0 ∷ 2 ∷ own) ++ (0 ∷ 0 ∷ [])

abbrev pub listing : List ℕ → List ℕ
listing peer = (77 ∷ 66 ∷ 82 ∷ 0 ∷ 2 ∷ 6 ∷ replicate 18 0) ++ (1 ∷ peer) ++ replicate 10 0
