-- Worked texts, byte by byte, of RFC 5952's own examples and their neighbours, and one of IPv4.
-- Assumes nothing.
use Rattle.std.specs.Prelude.{◌≡◌, refl, List, [], ◌∷◌, ◌++◌, ℕ}
use Rattle.address.specs.Here.{Addr, here_text}
use Rattle.address.specs.Text as text4
use Rattle.address.specs.Families as families
use Rattle.ip6.specs.Text6 as six

abbrev v4 : ℕ → ℕ → Addr
v4 ip port = record { family = 4; port = port; high = 0; low = ip }

abbrev v6 : ℕ → ℕ → ℕ → Addr
v6 high low port = record { family = 6; port = port; high = high; low = low }

-- the shortest: [::]:0
pub text-shortest : here_text (v6 0 0 0) ≡ 91 ∷ 58 ∷ 58 ∷ 93 ∷ 58 ∷ 48 ∷ []
unfolding families.text_of six.digit six.numeral_in six.leading six.longest six.place six.behind six.joined six.without six.plain six.mapped six.dotted six.ip6 six.text6
text-shortest = refl

-- 4.3, lower case, and 4.1, no leading zeros: the longest run in the middle: [2001:db8::abcd:ef:0:1a]:7000
pub text-letters : here_text (v6 2306139568115548160 12379551977208545306 7000) ≡ 91 ∷ 50 ∷ 48 ∷ 48 ∷ 49 ∷ 58 ∷ 100 ∷ 98 ∷ 56 ∷ 58 ∷ 58 ∷ 97 ∷ 98 ∷ 99 ∷ 100 ∷ 58 ∷ 101 ∷ 102 ∷ 58 ∷ 48 ∷ 58 ∷ 49 ∷ 97 ∷ 93 ∷ 58 ∷ 55 ∷ 48 ∷ 48 ∷ 48 ∷ []
unfolding families.text_of six.digit six.numeral_in six.leading six.longest six.place six.behind six.joined six.without six.plain six.mapped six.dotted six.ip6 six.text6
text-letters = refl

-- 4.2.2, a single zero group stays: [2001:db8:0:1:1:1:1:1]:80
pub text_single_zero : here_text (v6 2306139568115548161 281479271743489 80) ≡ 91 ∷ 50 ∷ 48 ∷ 48 ∷ 49 ∷ 58 ∷ 100 ∷ 98 ∷ 56 ∷ 58 ∷ 48 ∷ 58 ∷ 49 ∷ 58 ∷ 49 ∷ 58 ∷ 49 ∷ 58 ∷ 49 ∷ 58 ∷ 49 ∷ 93 ∷ 58 ∷ 56 ∷ 48 ∷ []
unfolding families.text_of six.digit six.numeral_in six.leading six.longest six.place six.behind six.joined six.without six.plain six.mapped six.dotted six.ip6 six.text6
text_single_zero = refl

-- 4.2.3, the first of two equal runs: [2001:db8::1:0:0:1]:443
pub text-first_of_equals : here_text (v6 2306139568115548160 281474976710657 443) ≡ 91 ∷ 50 ∷ 48 ∷ 48 ∷ 49 ∷ 58 ∷ 100 ∷ 98 ∷ 56 ∷ 58 ∷ 58 ∷ 49 ∷ 58 ∷ 48 ∷ 58 ∷ 48 ∷ 58 ∷ 49 ∷ 93 ∷ 58 ∷ 52 ∷ 52 ∷ 51 ∷ []
unfolding families.text_of six.digit six.numeral_in six.leading six.longest six.place six.behind six.joined six.without six.plain six.mapped six.dotted six.ip6 six.text6
text-first_of_equals = refl

-- 4.2.3, the longer run, although it is the later one: [2001:0:0:1::1]:443
pub text-longer-run : here_text (v6 2306124484190404609 1 443) ≡ 91 ∷ 50 ∷ 48 ∷ 48 ∷ 49 ∷ 58 ∷ 48 ∷ 58 ∷ 48 ∷ 58 ∷ 49 ∷ 58 ∷ 58 ∷ 49 ∷ 93 ∷ 58 ∷ 52 ∷ 52 ∷ 51 ∷ []
unfolding families.text_of six.digit six.numeral_in six.leading six.longest six.place six.behind six.joined six.without six.plain six.mapped six.dotted six.ip6 six.text6
text-longer-run = refl

-- a run at the end: [fe80::]:65535
pub text-run-at_the_end : here_text (v6 18338657682652659712 0 65535) ≡ 91 ∷ 102 ∷ 101 ∷ 56 ∷ 48 ∷ 58 ∷ 58 ∷ 93 ∷ 58 ∷ 54 ∷ 53 ∷ 53 ∷ 51 ∷ 53 ∷ []
unfolding families.text_of six.digit six.numeral_in six.leading six.longest six.place six.behind six.joined six.without six.plain six.mapped six.dotted six.ip6 six.text6
text-run-at_the_end = refl

-- 5, mapped in dotted form: [::ffff:192.0.2.1]:53
pub text-mapped : here_text (v6 0 281473902969345 53) ≡ 91 ∷ 58 ∷ 58 ∷ 102 ∷ 102 ∷ 102 ∷ 102 ∷ 58 ∷ 49 ∷ 57 ∷ 50 ∷ 46 ∷ 48 ∷ 46 ∷ 50 ∷ 46 ∷ 49 ∷ 93 ∷ 58 ∷ 53 ∷ 51 ∷ []
unfolding families.text_of six.digit six.numeral_in six.leading six.longest six.place six.behind six.joined six.without six.plain six.mapped six.dotted six.ip6 six.text6
text-mapped = refl

-- compatible in hexadecimal: [::c000:201]:53
pub text_compatible : here_text (v6 0 3221225985 53) ≡ 91 ∷ 58 ∷ 58 ∷ 99 ∷ 48 ∷ 48 ∷ 48 ∷ 58 ∷ 50 ∷ 48 ∷ 49 ∷ 93 ∷ 58 ∷ 53 ∷ 51 ∷ []
unfolding families.text_of six.digit six.numeral_in six.leading six.longest six.place six.behind six.joined six.without six.plain six.mapped six.dotted six.ip6 six.text6
text_compatible = refl

-- the longest: [fedc:ba98:7654:3210:fedc:ba98:7654:3210]:65535
pub text-longest : here_text (v6 18364758544493064720 18364758544493064720 65535) ≡ 91 ∷ 102 ∷ 101 ∷ 100 ∷ 99 ∷ 58 ∷ 98 ∷ 97 ∷ 57 ∷ 56 ∷ 58 ∷ 55 ∷ 54 ∷ 53 ∷ 52 ∷ 58 ∷ 51 ∷ 50 ∷ 49 ∷ 48 ∷ 58 ∷ 102 ∷ 101 ∷ 100 ∷ 99 ∷ 58 ∷ 98 ∷ 97 ∷ 57 ∷ 56 ∷ 58 ∷ 55 ∷ 54 ∷ 53 ∷ 52 ∷ 58 ∷ 51 ∷ 50 ∷ 49 ∷ 48 ∷ 93 ∷ 58 ∷ 54 ∷ 53 ∷ 53 ∷ 51 ∷ 53 ∷ []
unfolding families.text_of six.digit six.numeral_in six.leading six.longest six.place six.behind six.joined six.without six.plain six.mapped six.dotted six.ip6 six.text6
text-longest = refl

-- 10.0.0.1:7000
pub text_of-ipv4 : here_text (v4 167772161 7000) ≡ 49 ∷ 48 ∷ 46 ∷ 48 ∷ 46 ∷ 48 ∷ 46 ∷ 49 ∷ 58 ∷ 55 ∷ 48 ∷ 48 ∷ 48 ∷ []
unfolding families.text_of families.number text4.decimal_in
text_of-ipv4 = refl
