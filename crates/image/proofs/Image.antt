-- A saved list in bytes: "the mark MBR, a 16-bit version 1, own address in 8 bytes, count in one byte, for each address in probing order 8 bytes of address, one of
-- state (0 Alive, 1 Pending, 2 Suspected) and 8 of number, then the position in one byte. Numbers have the high byte first." The layout stands here once, for any type of address
-- and its bytes, which is all that another version changes; what a list's image is, what is read from bytes, and which fields are in rule.
-- Assumes nothing.
use Rattle.std.specs.Prelude.{◌≡◌, refl, [], ◌∷◌}
use Rattle.numbers.specs.Numbers.{big_endian}
use Rattle.image.specs.Image.{mark}

pub mark-bytes : big_endian 3 mark ≡ 77 ∷ 66 ∷ 82 ∷ []
unfolding big_endian
mark-bytes = refl
