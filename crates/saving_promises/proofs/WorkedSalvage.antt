-- Worked salvages, byte by byte: an image of version 2 with one record of IPv6. It stays as it is; it comes out as version 1 where that record is dropped; it is refused where its head is short.
-- Assumes nothing.
use Rattle.std.specs.Prelude.{◌≡◌, refl, List, [], ◌∷◌, ◌++◌, ℕ}
use Rattle.model.specs.declared.Refusal.TheVariants.{WrongMark, OutOfRule}
use Rattle.address.specs.Families.{same_address, in_range}
use Rattle.address.specs.Here.{here}
use Rattle.numbers.specs.Numbers.{big_endian, number_in, number_of}
use Rattle.numbers.specs.Codec.{put_many}
use Rattle.image.specs.Image.{state_number, state_of, image, marked, counted}
use Rattle.image.specs.Forms.{needs_wide}
use Rattle.image.specs.Versions.{versions}
use Rattle.salvage.specs.Salvage.{Ending, salvaged, not_salvaged, verdict, word_of, kept_of, word_at, words_of, places, position_of, left, result, headed, salvage}
use Rattle.salvage.specs.declared.Word.TheVariants as word
use Rattle.saving_promises.specs.WorkedSalvage.{head_of, wide_image, narrow_image}

abbrev ends : List ℕ → Ending
ends bytes = (salvage here versions bytes (wide_image 0 0)).ends

-- kept as it is; dropped for its state; for its family; as IPv4 with more than 32 bits
pub worked_result : (result here versions (wide_image 6 1) ≡ wide_image 6 1)
    × (result here versions (wide_image 6 3) ≡ narrow_image)
    × (result here versions (wide_image 5 1) ≡ narrow_image)
    × (result here versions (wide_image 4 1) ≡ narrow_image)
unfolding marked left image kept_of word_of verdict places counted position_of needs_wide big_endian put_many state_number state_of number_in number_of same_address in_range
worked_result = (refl, refl, refl, refl)

pub worked_ends : (ends (wide_image 6 1) ≡ salvaged 82 2 (word.Kept ∷ word.Kept ∷ []))
    × (ends (wide_image 6 3) ≡ salvaged 32 2 (word.State ∷ word.Kept ∷ []))
    × (ends (wide_image 5 1) ≡ salvaged 32 2 (word.Address ∷ word.Kept ∷ []))
    × (ends (head_of 2) ≡ not_salvaged OutOfRule)
    × (ends (head_of 2 ++ (0 ∷ [])) ≡ salvaged 15 0 [])
    × (ends (head_of 3 ++ (0 ∷ [])) ≡ not_salvaged WrongMark)
unfolding salvage marked headed left image kept_of word_of word_at words_of verdict places counted position_of needs_wide big_endian put_many state_number state_of number_in number_of same_address in_range
worked_ends = (refl, refl, refl, refl, refl, refl)
