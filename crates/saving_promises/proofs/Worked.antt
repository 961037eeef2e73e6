-- Worked images, one of each version, byte by byte: the mark, the version, the own address, the count, the places, the position.
-- Assumes nothing.
use Rattle.std.specs.Prelude.{◌≡◌, refl, [], ◌∷◌, ◌++◌, replicate}
use Rattle.model.specs.declared.Refusal.TheVariants.{Setting, WrongMark, WrongLength, OutOfRule}
use Rattle.model.specs.Sound.{positioned, in_range}
use Rattle.model.specs.Calls.{not_created}
use Rattle.address.specs.Families.{in_range as address_in_range}
use Rattle.numbers.specs.Numbers.{big_endian, number_in, number_of}
use Rattle.numbers.specs.Codec.{put_many, get_many}
use Rattle.image.specs.Image.{state_number, image, marked, sized, counted, fields, in_rule}
use Rattle.image.specs.Forms.{needs_wide, image_of, in_version}
use Rattle.image.specs.Versions.{versions}
use Rattle.saving.specs.Saving.{restore}
use Rattle.saving_promises.specs.Worked.{three, mixed, told, alone, listing}

-- none is of IPv6: version 1
pub worked_image : image_of versions three ≡
    (77 ∷ 66 ∷ 82 ∷ 0 ∷ 1 ∷ 0 ∷ 0 ∷ 10 ∷ 0 ∷ 0 ∷ 1 ∷ 27 ∷ 88 ∷ 3 ∷ [])
    ++ (0 ∷ 0 ∷ 10 ∷ 0 ∷ 0 ∷ 2 ∷ 27 ∷ 88 ∷ 2 ∷ 0 ∷ 0 ∷ 0 ∷ 0 ∷ 0 ∷ 0 ∷ 1 ∷ 2 ∷ [])
    ++ (0 ∷ 0 ∷ 0 ∷ 0 ∷ 0 ∷ 0 ∷ 0 ∷ 1 ∷ 1 ∷ 255 ∷ 255 ∷ 255 ∷ 255 ∷ 255 ∷ 255 ∷ 255 ∷ 255 ∷ [])
    ++ (0 ∷ 0 ∷ 10 ∷ 0 ∷ 0 ∷ 1 ∷ 27 ∷ 88 ∷ 0 ∷ 0 ∷ 0 ∷ 0 ∷ 0 ∷ 0 ∷ 0 ∷ 0 ∷ 0 ∷ [])
    ++ (1 ∷ [])
unfolding needs_wide image big_endian put_many state_number
worked_image = refl

-- one is of IPv6: version 2, in which each has 19 bytes
pub worked_image_2 : image_of versions mixed ≡
    (77 ∷ 66 ∷ 82 ∷ 0 ∷ 2 ∷ [])
    ++ (4 ∷ 0 ∷ 0 ∷ 0 ∷ 0 ∷ 0 ∷ 0 ∷ 0 ∷ 0 ∷ 0 ∷ 0 ∷ 0 ∷ 0 ∷ 10 ∷ 0 ∷ 0 ∷ 1 ∷ 27 ∷ 88 ∷ 2 ∷ [])
    ++ (6 ∷ 32 ∷ 1 ∷ 13 ∷ 184 ∷ 0 ∷ 0 ∷ 0 ∷ 0 ∷ 0 ∷ 0 ∷ 0 ∷ 0 ∷ 0 ∷ 0 ∷ 0 ∷ 1 ∷ 27 ∷ 88 ∷ [])
    ++ (2 ∷ 0 ∷ 0 ∷ 0 ∷ 0 ∷ 0 ∷ 0 ∷ 1 ∷ 2 ∷ [])
    ++ (4 ∷ 0 ∷ 0 ∷ 0 ∷ 0 ∷ 0 ∷ 0 ∷ 0 ∷ 0 ∷ 0 ∷ 0 ∷ 0 ∷ 0 ∷ 10 ∷ 0 ∷ 0 ∷ 1 ∷ 27 ∷ 88 ∷ [])
    ++ (0 ∷ 0 ∷ 0 ∷ 0 ∷ 0 ∷ 0 ∷ 0 ∷ 0 ∷ 0 ∷ [])
    ++ (1 ∷ [])
unfolding needs_wide image big_endian put_many state_number
worked_image_2 = refl

-- a third version; the mark and a version alone; an empty list at position 1; an empty list
pub worked_order : (told (77 ∷ 66 ∷ 82 ∷ 0 ∷ 3 ∷ []) ≡ not_created WrongMark)
    × (told (77 ∷ 66 ∷ 82 ∷ 0 ∷ 1 ∷ []) ≡ not_created WrongLength)
    × (told (77 ∷ 66 ∷ 82 ∷ 0 ∷ 1 ∷ 0 ∷ 0 ∷ 0 ∷ 0 ∷ 0 ∷ 0 ∷ 0 ∷ 1 ∷ 0 ∷ 1 ∷ []) ≡ not_created OutOfRule)
    × (told (77 ∷ 66 ∷ 82 ∷ 0 ∷ 1 ∷ 0 ∷ 0 ∷ 0 ∷ 0 ∷ 0 ∷ 0 ∷ 0 ∷ 1 ∷ 0 ∷ 0 ∷ []) ≡ not_created Setting)
unfolding restore marked sized counted fields in_rule in_version needs_wide address_in_range positioned in_range get_many number_in number_of
worked_order = (refl, refl, refl, refl)

-- the mark and the version alone; "restore answers 16 to a version 2 image without one"; one; of another family; of IPv4; with a byte before it
pub worked_version_2 : (told (77 ∷ 66 ∷ 82 ∷ 0 ∷ 2 ∷ []) ≡ not_created WrongLength)
    × (told (alone (4 ∷ replicate 18 0)) ≡ not_created OutOfRule)
    × (told (alone (6 ∷ replicate 18 0)) ≡ not_created Setting)
    × (told (listing (5 ∷ replicate 18 0)) ≡ not_created OutOfRule)
    × (told (listing (4 ∷ replicate 18 0)) ≡ not_created Setting)
    × (told (listing (4 ∷ 1 ∷ replicate 17 0)) ≡ not_created OutOfRule)
unfolding restore marked sized counted fields in_rule in_version needs_wide address_in_range positioned in_range get_many number_in number_of
worked_version_2 = (refl, refl, refl, refl, refl, refl)
