-- `incoming::action_of` meets its contract: by the other text and the kind.
-- Assumes nothing.
use mathlib.Core.Path.{◌≡◌, sym, ap, ◌∙◌}
use native.Mathlib.Omega.{arith}
use borrow.Author.Tests.{eq-eqb, ne_eqb}
use Rattle.incoming.specs.Datagram.{action_of}
use borrow.Author.Rules.{rules}
use Rattle.incoming.proofs.action_of.Goals as goal

pub returns-in-Malformed : goal.returns-in-Malformed
unfolding action_of
returns-in-Malformed c =
    let a = c.args in
    sym (ap (action_of a.kind a.from) c.in-Malformed.is)

pub returns-in-1 : goal.returns-in-1
unfolding action_of
returns-in-1 c =
    let a = c.args in
    sym (ap (action_of a.kind a.from) c.in-Empty.is ∙ simp (eq-eqb a.kind 1 (search rules)))

pub returns-in-2 : goal.returns-in-2
unfolding action_of
returns-in-2 c =
    let a = c.args in
    sym (ap (action_of a.kind a.from) c.in-Empty.is ∙ simp (ne_eqb a.kind 1 (λ q. let z : a.kind ≡ 2 = search rules in omega arith), eq-eqb a.kind 2 (search rules)))

pub returns-in_default : goal.returns-in_default
unfolding action_of
returns-in_default c =
    let a = c.args in
    sym (ap (action_of a.kind a.from) c.in-Empty.is ∙ simp (ne_eqb a.kind 1 (search rules), ne_eqb a.kind 2 (search rules)))

pub returns-in-1-kind : goal.returns-in-1-kind
unfolding action_of
returns-in-1-kind c =
    let a = c.args in
    sym (ap (action_of a.kind a.from) c.in-Given.is ∙ simp (eq-eqb a.kind 1 (search rules)))

pub returns-in-2-kind : goal.returns-in-2-kind
unfolding action_of
returns-in-2-kind c =
    let a = c.args in
    sym (ap (action_of a.kind a.from) c.in-Given.is ∙ simp (ne_eqb a.kind 1 (λ q. let z : a.kind ≡ 2 = search rules in omega arith), eq-eqb a.kind 2 (search rules)))

pub returns-in_default-kind : goal.returns-in_default-kind
unfolding action_of
returns-in_default-kind c =
    let a = c.args in
    sym (ap (action_of a.kind a.from) c.in-Given.is ∙ simp (ne_eqb a.kind 1 (search rules), ne_eqb a.kind 2 (search rules)))
