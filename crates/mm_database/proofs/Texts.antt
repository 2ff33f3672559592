-- Texts that are appended and written, and what they declare.
use Rattle.std.proofs.Common.{◌≡◌, ℕ, ◌+◌, true, [], ◌∷◌, ◌++◌, length, refl, sym, subst, arith}
use Rattle.mm_text.specs.Statements.{Statements, no_statement, unended, bad_statement}
use Rattle.mm_text.specs.Statements.{next_statement, statement, statements_from, statements_of}
use Rattle.mm_text.specs.TextLaws.{end_well, followed_by}
use Rattle.mm_text.proofs.Appending.{appended_text}
use Rattle.mm_text.proofs.Writing.{written_statement}
use Rattle.mm_database.specs.Database.{Context, empty_context, context_after}
use Rattle.mm_database.specs.Validity.{HaveNoFault}
use Rattle.mm_database.specs.FrameLaws.{AppendedIsFine, WrittenIsFine}
use Rattle.mm_text.specs.Written.{written}
use Rattle.mm_database.specs.StatementTexts.{written_statements}

pub end_well-HaveNoFault : (c left : Context) (statements : Statements)
    → HaveNoFault c statements left → end_well statements ≡ true
end_well-HaveNoFault c left no_statement h = refl
end_well-HaveNoFault c left (unended at) h = absurd h
end_well-HaveNoFault c left (bad_statement f) h = absurd h
end_well-HaveNoFault c left (next_statement s statements) h =
    end_well-HaveNoFault (context_after c s) left statements h.1

HaveNoFault-followed : (c left last : Context) (statements more : Statements)
    → HaveNoFault c statements left → HaveNoFault left more last
    → HaveNoFault c (followed_by statements more) last
HaveNoFault-followed c left last no_statement more same h =
    subst (λ (d : Context). HaveNoFault d more last) same h
HaveNoFault-followed c left last (unended at) more none h = absurd none
HaveNoFault-followed c left last (bad_statement f) more none h = absurd none
HaveNoFault-followed c left last (next_statement s statements) more fine h =
    (fine.0, HaveNoFault-followed (context_after c s) left last statements more fine.1 h)

pub appended_is_fine : AppendedIsFine
appended_is_fine text more left last ends fine behind =
    let read : statements_of (text ++ more) ≡ followed_by (statements_of text)
    (statements_from (0 + length text) more) =
    appended_text 0 text more ends
    (end_well-HaveNoFault empty_context left (statements_of text) fine) in
    let place : 0 + length text ≡ length text = omega arith in
    subst (λ (ss : Statements). HaveNoFault empty_context ss last) (sym read)
    (HaveNoFault-followed empty_context left last (statements_of text)
    (statements_from (0 + length text) more) fine
    (subst (λ (n : ℕ). HaveNoFault left (statements_from n more) last) (sym place) behind))

pub written_is_fine : WrittenIsFine
written_is_fine c at [] left same = same
written_is_fine c at (tokens ∷ statements) left (plain, one, fine, behind) =
    let read : statements_from at (written tokens ++ written_statements statements) ≡ next_statement
    (statement at tokens)
    (statements_from (at + length (written tokens)) (written_statements statements)) =
    written_statement at tokens (written_statements statements) plain one in
    subst (λ (ss : Statements). HaveNoFault c ss left) (sym read) (
      fine,
      written_is_fine (context_after c (statement at tokens)) (at + length (written tokens))
          statements left behind,
    )
