use Rattle.std.proofs.Common.{sym, ◌≡◌, rules}
use Rattle.mm_proof.proofs.TableLaws.{found_token, stored_token, grown_by_one}
use Rattle.mm_proof.proofs.table.token_number.Goals as goal

pub returns-in-Some-clause-number : goal.returns-in-Some-clause-number
returns-in-Some-clause-number c =
    found_token c.args.token.now c.in-Some.number c.args.tokens.now.keys
    (sym c.in-Some.ensures.index)

pub returns-clause-grown : goal.returns-clause-grown
returns-clause-grown c =
    grown_by_one _ c.args.tokens.now.keys c.insert_full.new.self.keys c.extend_from_slice.new.self
    c.in_ok-number.ensures.keys

pub returns-clause-number : goal.returns-clause-number
returns-clause-number c =
    let (k, there, same) = c.in_ok-number.ensures.stored in
    let held : c.extend_from_slice.new.self.items ≡ c.args.token.now = search rules in
    rw (← held) (stored_token c.extend_from_slice.new.self.items c.in_ok-number.number k
    c.insert_full.new.self.keys there same)
