use Rattle.refute_guard.proofs.MemberLaws.{IsFrom}
use Rattle.refute_guard.proofs.members.member_at.Given as goal

abbrev pub invariant-loop : goal.invariant-loop
invariant-loop l = IsFrom l.b l.counter l.present
