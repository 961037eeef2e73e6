-- Every case of the table holds: the rules compute it.
-- Assumes nothing.
use Rattle.std.specs.Prelude.{refl, List, [], ◌∷◌}
use Rattle.model.specs.Answers.{when}
use Rattle.model.specs.Rows.{swap}
use Rattle.model.specs.Limit.{least_from, least_power, limit_of}
use Rattle.model.specs.Size.{varint_from, varint_length, size_of_number, size_over, size_of}
use Rattle.address.specs.IPv4.{digits, text_length}
use Rattle.address.specs.Families.{chars_of}
use Rattle.ip6.specs.Text6 as six
use Rattle.model.specs.Words.{parts_of, same_gossip}
use Rattle.model.specs.Heap.{climb_in, climb, lower, down_in, down, push, sink_top, remove_top}
use Rattle.model.specs.Choose.{terms_of, was_noted, take_top, try_heap, try_alive, try_deceased, over, rounds, choose, or_else, death}
use Rattle.model.specs.Members.{shuffle, advance, added, add, remove, update, seek, pick_from}
use Rattle.model.specs.Collect.{collects, cleared}
use Rattle.model.specs.Departed.{make_room, look_up, without, depart, departs, death_of}
use Rattle.model.specs.Node.{quiet, pushed, emit, change, leave, spread}
use Rattle.model.specs.Handler.{believed, suspected_other, suspected, deceased, list_after, row_after, news_of, act, item}
use Rattle.model.specs.Detector.{pinged, send_ping}
use Rattle.worked.specs.Table.{Case, Holds, table}

pub data All : List Case → Type 1 where
  end : All []
  ◌and◌ : {c : Case} {cs : List Case} → Holds c → All cs → All (c ∷ cs)

infixr 10 ◌and◌
pub worked : All table
unfolding when swap least_from least_power limit_of varint_from varint_length size_of_number size_over size_of digits text_length chars_of six.digit six.numeral_in six.leading six.longest six.place six.behind six.joined six.without six.plain six.mapped six.dotted six.ip6 six.text6 parts_of same_gossip climb_in climb lower down_in down push sink_top remove_top terms_of was_noted take_top try_heap try_alive try_deceased over rounds choose or_else shuffle advance added add remove update seek pick_from quiet collects cleared pushed emit change leave spread believed suspected_other suspected deceased make_room look_up without depart departs death_of list_after row_after news_of act item pinged send_ping
worked =
    refl and refl and refl and refl and refl and refl and refl and refl and refl and refl and refl and refl and refl and refl
    and refl and refl and refl and refl and refl and refl and refl and refl and refl and refl and refl and refl and refl and refl and end
