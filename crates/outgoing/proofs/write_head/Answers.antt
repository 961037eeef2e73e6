-- `outgoing::write_head` meets its contract: the length first, then the key, the count and the addresses.
-- Assumes nothing.
use mathlib.Core.Path.{◌≡◌, ◌∙◌}
use native.Mathlib.Omega.{arith}
use Prim.Native.Nat.{◌+◌}
use Rattle.outgoing.specs.Laying.{addresses-count, kind-small, too_long, room_key, room-count, room-addresses, headed}
use borrow.Author.Rules.{rules}
use Rattle.outgoing.proofs.write_head.Goals as goal

pub overflow_add-inside : goal.overflow_add-inside
overflow_add-inside c = omega (arith, c.wide.ensures, c.text_len.ensures.2)

pub overflow_add-inside-2 : goal.overflow_add-inside-2
overflow_add-inside-2 c = omega (arith, c.wide.ensures, c.text_len.ensures.2, c.other_len.ensures.1)

pub overflow_add-inside-3 : goal.overflow_add-inside-3
overflow_add-inside-3 c =
    omega (arith, c.requires, c.wide.ensures, c.text_len.ensures.2, c.other_len.ensures.1)

pub overflow_add-head : goal.overflow_add-head
overflow_add-head c = omega (arith, c.wide-head.ensures, c.varint_len.ensures.1)

pub overflow_add-head-2 : goal.overflow_add-head-2
overflow_add-head-2 c =
    omega (arith, c.requires, c.wide-head.ensures, c.varint_len.ensures.1, c.wide.ensures, c.text_len.ensures.2, c.other_len.ensures.1)

pub returns-then-out-head : goal.returns-then-out-head
returns-then-out-head c =
    let p = c.parts_of-o in
    let t = c.text_len.ensures in
    let x : c.wide.result ≡ c.text_len.result = c.wide.ensures in
    let y = c.other_len.result in
    let inside = 2 + c.wide.result + y + c.args.rest in
    let i = addresses-count p.result.from p.result.other c.wide.result y c.args.rest (x ∙ t.0) (omega (arith, t.2)) c.other_len.ensures.0 in
    let v = c.wide-head.ensures ∙ c.varint_len.ensures.0 in
    too_long c.args.a c.args.rest p.result p.ensures inside c.wide-head.result i (omega (arith, c.requires, c.other_len.ensures.1, x, t.2)) v _ (search rules)

pub overflow_mul-o : goal.overflow_mul-o
overflow_mul-o c =
    let p = c.parts_of-o in
    omega (arith, kind-small c.args.a c.args.rest p.result p.ensures)

pub overflow_add-o : goal.overflow_add-o
overflow_add-o c =
    let p = c.parts_of-o in
    omega (arith, kind-small c.args.a c.args.rest p.result p.ensures)

pub write-count-requires : goal.write-count-requires
write-count-requires c =
    let p = c.parts_of-o in
    let t = c.text_len.ensures in
    let x : c.wide.result ≡ c.text_len.result = c.wide.ensures in
    let y = c.other_len.result in
    let inside = 2 + c.wide.result + y + c.args.rest in
    let i = addresses-count p.result.from p.result.other c.wide.result y c.args.rest (x ∙ t.0) (omega (arith, t.2)) c.other_len.ensures.0 in
    let v = c.wide-head.ensures ∙ c.varint_len.ensures.0 in
    room_key c.args.a c.args.rest p.result p.ensures inside c.wide-head.result i (omega (arith, c.requires, c.other_len.ensures.1, x, t.2)) v _ (search rules)

pub write-start-requires : goal.write-start-requires
write-start-requires c =
    let p = c.parts_of-o in
    let t = c.text_len.ensures in
    let x : c.wide.result ≡ c.text_len.result = c.wide.ensures in
    let y = c.other_len.result in
    let inside = 2 + c.wide.result + y + c.args.rest in
    let i = addresses-count p.result.from p.result.other c.wide.result y c.args.rest (x ∙ t.0) (omega (arith, t.2)) c.other_len.ensures.0 in
    let v = c.wide-head.ensures ∙ c.varint_len.ensures.0 in
    room-count c.args.a c.args.rest p.result p.ensures inside c.wide-head.result i (omega (arith, c.requires, c.other_len.ensures.1, x, t.2)) v _ (search rules) c.write-count.ensures

pub write_addresses-end-requires : goal.write_addresses-end-requires
write_addresses-end-requires c =
    let p = c.parts_of-o in
    let t = c.text_len.ensures in
    let x : c.wide.result ≡ c.text_len.result = c.wide.ensures in
    let y = c.other_len.result in
    let inside = 2 + c.wide.result + y + c.args.rest in
    let i = addresses-count p.result.from p.result.other c.wide.result y c.args.rest (x ∙ t.0) (omega (arith, t.2)) c.other_len.ensures.0 in
    let v = c.wide-head.ensures ∙ c.varint_len.ensures.0 in
    room-addresses c.args.a c.args.rest p.result p.ensures inside c.wide-head.result i (omega (arith, c.requires, c.other_len.ensures.1, x, t.2)) v _ (search rules) c.write-count.ensures c.write-start.ensures

pub shape_of-out : goal.shape_of-out
shape_of-out c =
    c.write_addresses-end.ensures.long ∙ c.write-start.ensures.long ∙ c.write-count.ensures.long

pub returns : goal.returns
returns c =
    let p = c.parts_of-o in
    let t = c.text_len.ensures in
    let x : c.wide.result ≡ c.text_len.result = c.wide.ensures in
    let y = c.other_len.result in
    let inside = 2 + c.wide.result + y + c.args.rest in
    let i = addresses-count p.result.from p.result.other c.wide.result y c.args.rest (x ∙ t.0) (omega (arith, t.2)) c.other_len.ensures.0 in
    let v = c.wide-head.ensures ∙ c.varint_len.ensures.0 in
    headed c.args.a c.args.rest p.result p.ensures inside c.wide-head.result i (omega (arith, c.requires, c.other_len.ensures.1, x, t.2)) v _ (search rules) c.write-count.ensures c.write-start.ensures c.write_addresses-end.ensures
