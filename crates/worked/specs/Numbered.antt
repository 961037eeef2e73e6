-- The worked numbers name addresses of IPv4 by one number each, ip × 65536 + port: the rules are over any kind of address.
-- Assumes nothing.
use Rattle.std.specs.Prelude.{ℕ, ◌^◌, eqb, ltb}
use Rattle.model.specs.Words.{Address}
use Rattle.address.specs.IPv4.{text_length}

abbrev pub address_end : ℕ
address_end = 2 ^ 48

abbrev pub ipv4 : Address ℕ
ipv4 = record { same = eqb; blank = 0; valid = λ a. ltb a address_end; chars = text_length }
