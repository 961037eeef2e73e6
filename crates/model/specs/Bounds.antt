-- "Numbers that bound it."
-- Assumes nothing.
use Rattle.std.specs.Prelude.{ℕ, ◌-◌, ◌^◌}

-- "The list has at most 64 listed addresses."
abbrev pub list_places : ℕ
list_places = 64

-- "Each heap has 128 entries."
abbrev pub heap_places : ℕ
heap_places = 128

-- "There are 16 declaration timers."
abbrev pub timer_places : ℕ
timer_places = 16

-- "a row of 128 departed addresses"
abbrev pub departed_places : ℕ
departed_places = 128

-- "A message has at most 64 gossip records."
abbrev pub message_records : ℕ
message_records = 64

-- "sends at most 22"
abbrev pub most_sends : ℕ
most_sends = 22

-- "the number is 2^64 − 1"
abbrev pub last_number : ℕ
last_number = 2 ^ 64 - 1

-- "Ticks are 32 bits and come round to zero."
abbrev pub ticks : ℕ
ticks = 2 ^ 32

-- "Settings: four waits below 2^31 ticks, group 0 to 4, send constant 0 to 8, max_selected 1 to 64, max_size 111 to 1169."
abbrev pub wait_end : ℕ
wait_end = 2 ^ 31

abbrev pub most_group : ℕ
most_group = 4

abbrev pub most_constant : ℕ
most_constant = 8

abbrev pub most_selected : ℕ
most_selected = 64

abbrev pub least_size : ℕ
least_size = 111

abbrev pub greatest_size : ℕ
greatest_size = 1169

-- "a message call needs 64 gossip and 65 event records, a detector step 256 and 1, a timer call 0 and 1": the places of its rows
pub record Room : Type 0 where
  pub gossip : ℕ
  pub events : ℕ

abbrev pub message_room : Room
message_room = record { gossip = 64; events = 65 }

abbrev pub step_room : Room
step_room = record { gossip = 256; events = 1 }

abbrev pub timer_room : Room
timer_room = record { gossip = 0; events = 1 }
