-- What comparing a pattern with a term, both of one sort, comes to at once.
use Rattle.std.specs.Prelude.{◌≡◌, ℕ, List}
use Rattle.term_core.specs.Terms.{DomainValue, Tree, leaf, node, inj, Forest}
use Rattle.term_core.specs.Patterns.{Pattern, variable, domain_value, application, injection}
use Rattle.term_core.specs.Patterns.{ground_pattern, ground_patterns}
use Rattle.term_core.specs.RulePatterns.{plain_pattern}
use Rattle.term_core.specs.PatternLists.{plain_patterns}
use Rattle.refute.specs.Clashes.{Clash, IsUpTo}
use Rattle.refute.specs.declared.meetings.Meeting.{Meeting}
use Rattle.refute.specs.declared.meetings.Meeting.TheVariants as meeting

-- a clash; the same value; a variable; the arguments of the same constructor; or what two
-- injections inject, the term from a sort that is up to that of the pattern
abbrev pub Meets : List (ℕ × ℕ) → Pattern → Tree → Meeting → Type 0
Meets pairs p t meeting.Clash = Clash pairs p t
Meets pairs p t meeting.Ends =
    (s : ℕ) × (r : ℕ) × (v : DomainValue) × (p ≡ domain_value s v) × (t ≡ leaf r v)
Meets pairs p t (meeting.Variable x) = p ≡ variable x
Meets pairs p t (meeting.Arguments f ps ws) =
    (ts : Forest) × (p ≡ application f.0 (plain_patterns ps.now)) × (t ≡ node f.0 ts)
    × (plain_patterns ws.now ≡ ground_patterns ts)
Meets pairs p t (meeting.Below a b c q w) =
    (u : Tree) × (p ≡ injection b.0 c.0 (plain_pattern q.now)) × (t ≡ inj a.0 c.0 u)
    × (plain_pattern w.now ≡ ground_pattern u) × IsUpTo pairs a.0 b.0
