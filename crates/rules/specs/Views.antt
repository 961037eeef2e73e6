-- How the code's verdicts and news carry the model's: what `from` made, `to` undoes.
-- Assumes nothing.
use Rattle.std.specs.Prelude.{◌≡◌, refl, Bool, List, ℕ, ◌-◌, length, drop}
use Rattle.std.proofs.Common.{ap}
use Rattle.std.proofs.Math.Option.{Option, none, some}
use Rattle.model.specs.declared.Drew.TheVariants.{Used}
use Rattle.address.specs.Here.{Addr, here}
use Rattle.model.specs.Words as W
use Rattle.model.specs.Collect.{collects}
use Rattle.model.specs.Handler as M
use Rattle.types.specs.Views.{to_event, from_event, to_from_event}
use Rattle.disseminate.specs.declared.Found.{Found}
use Rattle.disseminate.specs.declared.Found.TheVariants.{Missing, At}
use Rattle.disseminate.specs.Views.{from_found}
use Rattle.member.specs.declared.Members.{Members}
use Rattle.member.specs.declared.Kept.{Kept}
use Rattle.member.specs.Views.{view_members, kept_as}
use Rattle.rules.specs.declared.Verdict.{Verdict}
use Rattle.rules.specs.declared.Verdict.TheVariants.{Skip, Unknown, Equal, Low, AtEnd, Refute, Enter, Raise, Recover, Suspect, Bury}
use Rattle.rules.specs.declared.News.{News}
use Rattle.rules.specs.declared.News.TheVariants.{Silent, Emits}

abbrev pub to_found : Found → Option ℕ
to_found Missing = none
to_found (At n) = some n

pub to_from_found : (o : Option ℕ) → to_found (from_found o) ≡ o
to_from_found none = refl
to_from_found (some n) = refl

abbrev pub from_verdict : M.Verdict Addr → Verdict
from_verdict M.Skip = Skip
from_verdict M.Unknown = Unknown
from_verdict M.Equal = Equal
from_verdict M.Low = Low
from_verdict M.AtEnd = AtEnd
from_verdict (M.Refute n) = Refute n
from_verdict (M.Enter a n) = Enter a n
from_verdict (M.Raise a n) = Raise a n
from_verdict (M.Recover a n) = Recover a n
from_verdict (M.Suspect a n) = Suspect a n
from_verdict (M.Bury a n) = Bury a n

abbrev pub to_verdict : Verdict → M.Verdict Addr
to_verdict Skip = M.Skip
to_verdict Unknown = M.Unknown
to_verdict Equal = M.Equal
to_verdict Low = M.Low
to_verdict AtEnd = M.AtEnd
to_verdict (Refute n) = M.Refute n
to_verdict (Enter a n) = M.Enter a n
to_verdict (Raise a n) = M.Raise a n
to_verdict (Recover a n) = M.Recover a n
to_verdict (Suspect a n) = M.Suspect a n
to_verdict (Bury a n) = M.Bury a n

pub to_from_verdict : (v : M.Verdict Addr) → to_verdict (from_verdict v) ≡ v
to_from_verdict M.Skip = refl
to_from_verdict M.Unknown = refl
to_from_verdict M.Equal = refl
to_from_verdict M.Low = refl
to_from_verdict M.AtEnd = refl
to_from_verdict (M.Refute n) = refl
to_from_verdict (M.Enter a n) = refl
to_from_verdict (M.Raise a n) = refl
to_from_verdict (M.Recover a n) = refl
to_from_verdict (M.Suspect a n) = refl
to_from_verdict (M.Bury a n) = refl

abbrev pub from_news : M.News Addr → News
from_news M.Silent = Silent
from_news (M.Emits k e) = Emits k (from_event e)

abbrev pub to_news : News → M.News Addr
to_news Silent = M.Silent
to_news (Emits k e) = M.Emits k (to_event e)

pub to_from_news : (n : M.News Addr) → to_news (from_news n) ≡ n
to_from_news M.Silent = refl
to_from_news (M.Emits k e) = ap (M.Emits k) (to_from_event e)

-- how many held events news outdates, where collecting is on
abbrev pub collects_for : Bool → M.News Addr → List (W.Entry Addr) → ℕ
collects_for on M.Silent h = 0
collects_for on (M.Emits k e) h = collects here on k (record { event = e }) h

-- no draw was needed
abbrev pub stayed : Members → Kept
stayed m = record { members = m; drew = Used 0 }

-- the list after a verdict, of the draws from a place on; where it is refused the members are as they came
abbrev pub list_after_of : Addr → Members → M.Verdict Addr → List ℕ → ℕ → Kept
list_after_of own m v draws from = kept_as own m (length draws - from) (M.list_after here v (view_members m) (drop from draws))
