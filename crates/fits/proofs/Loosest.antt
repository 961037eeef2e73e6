-- What the bounds are for. At the top: 65 records of 18 bytes make 1170, a byte more than `max_size` may be, and 64 places would not be enough for them. At the floor: every gossip
-- fits, and the longest leaves no byte.
-- Assumes nothing.
use Rattle.std.specs.Prelude.{◌≡◌, refl, [], ℕ, zero, suc, ◌+◌, ◌-◌, ◌*◌, ◌^◌, ◌≤◌, length}
use Rattle.std.proofs.Common.{ap, arith, lit≤}
use Rattle.model.specs.Bounds.{least_size, greatest_size}
use Rattle.model.specs.Size.{varint_from, varint_length, size_of_number, size_over, size_of}
use Rattle.address.specs.Families.{chars_of}
use Rattle.ip6.specs.Text6.{digit, numeral_in, leading, longest, place, behind, joined, without, plain, mapped, dotted, ip6, text6}
use Rattle.types.specs.declared.Event.{Event}
use Rattle.types.specs.declared.Event.TheVariants.{Nothing, Joined, Recovered, Suspected, Deceased}
use Rattle.types.specs.SizeLaws.{size_over-here}
use Rattle.disseminate.specs.Fit.{least_gossip, most_chosen}
use Rattle.fits.specs.Sizes.{sizes, length_of}
use Rattle.fits.specs.Length.{sizes_of}
use Rattle.fits.specs.Loosest.{small, TooMany, size_of_event, furthest}

small-long : (k : ℕ) → length (small k) ≡ k
unfolding small
small-long zero = refl
small-long (suc k) = ap suc (small-long k)

small-sizes : (k : ℕ) → sizes_of (small k) ≡ least_gossip * k
unfolding small sizes varint_from varint_length size_of_number size_over size_of chars_of digit numeral_in leading longest place behind joined without plain mapped dotted ip6 text6
small-sizes zero = refl
small-sizes (suc k) = omega (arith, small-sizes k)

pub one_more : TooMany (most_chosen + 1) (greatest_size + 1)
one_more = record { counted = small-long (most_chosen + 1); sized = omega (arith, small-sizes (most_chosen + 1)) }

-- the longest message that the bound admits
pub longest-message : length_of most_chosen greatest_size ≡ 1398
longest-message = refl

pub each_fits : (e : Event) → size_of_event e ≤ least_size
unfolding size_of
each_fits Nothing = lit≤ tt
each_fits (Joined f s n) = (size_over-here f s n).1
each_fits (Recovered f s n) = (size_over-here f s n).1
each_fits (Suspected f s n) = (size_over-here f s n).1
each_fits (Deceased f s n) = (size_over-here f s n).1

pub one_takes_it_all : size_of_event (Joined furthest furthest (2 ^ 64 - 1)) ≡ least_size
unfolding varint_from varint_length size_of_number size_over size_of chars_of digit numeral_in leading longest place behind joined without plain mapped dotted ip6 text6
one_takes_it_all = refl
