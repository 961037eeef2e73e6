-- `incoming::judged` meets its contract: by the kind, the texts, the gossip.
-- Assumes nothing.
use mathlib.Core.Path.{sym, ap, ◌∙◌}
use borrow.Author.Tests.{eq-eqb, ne_eqb}
use mathlib.Core.Bool.{Bool}
use Rattle.model.specs.Rows.{pick}
use Rattle.iptext.specs.declared.Text.{Text}
use Rattle.incoming.specs.declared.Made.{Made}
use Rattle.incoming.specs.declared.Decoded.TheVariants.{Malformed}
use Rattle.incoming.specs.Datagram.{judge_made, judge_from, judge_of}
use borrow.Author.Rules.{rules}
use Rattle.incoming.proofs.judged.Goals as goal

pub returns-then-kind-eq0 : goal.returns-then-kind-eq0
unfolding judge_of judge_from judge_made
returns-then-kind-eq0 c =
    let a = c.args in
    sym (simp (eq-eqb a.kind 0 c.if-kind-eq0.true))

pub returns-then-s : goal.returns-then-s
unfolding judge_of judge_from judge_made
returns-then-s c =
    let a = c.args in
    sym (ap (λ (u : Bool). pick u (Malformed a.len) (judge_from a.kind a.s.from a.s.other a.s.bad a.len)) (ne_eqb a.kind 0 c.if-kind-eq0.false) ∙ ap (λ (x : Text). judge_from a.kind x a.s.other a.s.bad a.len) c.in-Given.is ∙ ap (λ (x : Made). judge_made x a.s.bad a.len) (sym c.action_of.ensures ∙ c.in-Whole.is) ∙ simp c.if-s.true)

pub returns-in-Empty : goal.returns-in-Empty
unfolding judge_of judge_from judge_made
returns-in-Empty c =
    let a = c.args in
    sym (ap (λ (u : Bool). pick u (Malformed a.len) (judge_from a.kind a.s.from a.s.other a.s.bad a.len)) (ne_eqb a.kind 0 c.if-kind-eq0.false) ∙ ap (λ (x : Text). judge_from a.kind x a.s.other a.s.bad a.len) c.in-Empty.is)

pub returns-in-Malformed : goal.returns-in-Malformed
unfolding judge_of judge_from judge_made
returns-in-Malformed c =
    let a = c.args in
    sym (ap (λ (u : Bool). pick u (Malformed a.len) (judge_from a.kind a.s.from a.s.other a.s.bad a.len)) (ne_eqb a.kind 0 c.if-kind-eq0.false) ∙ ap (λ (x : Text). judge_from a.kind x a.s.other a.s.bad a.len) c.in-Malformed.is)

pub returns-in-Missing : goal.returns-in-Missing
unfolding judge_of judge_from judge_made
returns-in-Missing c =
    let a = c.args in
    sym (ap (λ (u : Bool). pick u (Malformed a.len) (judge_from a.kind a.s.from a.s.other a.s.bad a.len)) (ne_eqb a.kind 0 c.if-kind-eq0.false) ∙ ap (λ (x : Text). judge_from a.kind x a.s.other a.s.bad a.len) c.in-Given.is ∙ ap (λ (x : Made). judge_made x a.s.bad a.len) (sym c.action_of.ensures ∙ c.in-Missing.is))

pub returns-else-s : goal.returns-else-s
unfolding judge_of judge_from judge_made
returns-else-s c =
    let a = c.args in
    sym (ap (λ (u : Bool). pick u (Malformed a.len) (judge_from a.kind a.s.from a.s.other a.s.bad a.len)) (ne_eqb a.kind 0 c.if-kind-eq0.false) ∙ ap (λ (x : Text). judge_from a.kind x a.s.other a.s.bad a.len) c.in-Given.is ∙ ap (λ (x : Made). judge_made x a.s.bad a.len) (sym c.action_of.ensures ∙ c.in-Whole.is) ∙ simp c.if-s.false)
