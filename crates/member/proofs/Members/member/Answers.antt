-- `member::Members::member` meets its contract: the record at a used place.
-- Assumes nothing.
use mathlib.Core.Path.{ap, sym}
use Rattle.member.specs.Views.{from_member, view_members}
use Rattle.member.proofs.Tables.{record-at}
use borrow.Author.Rules.{rules}
use Rattle.member.proofs.Members.member.Goals as goal

pub returns : goal.returns
unfolding view_members
returns c =
    let a = c.args in
    ap from_member (sym (record-at a.self.len a.self.table a.place c.requires.1))
