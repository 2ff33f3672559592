use Rattle.kore_rules.proofs.Exclusion.{definition_fault_is_one, accepted_not_refused}
use Rattle.kore_rules.proofs.Exclusion.{refusal_is_one, accepted_term_not_refused}
use Rattle.kore_rules.proofs.Exclusion.{term_refusal_is_one, start_is_one}
use Rattle.kore_rules.proofs.MeaningsFound.{each_term_is_decided}
use Rattle.kore_rules.proofs.OneFault.{term_is_one, axioms_are_one, spelled_faultless}
use Rattle.kore_rules.proofs.OneFault.{spelled_pattern_faultless, text_one, term_text_one}
use Rattle.kore_rules.proofs.OneProgram.{program_is_one}
use Rattle.kore_rules.proofs.OneReading.{definition_is_one, pattern_is_one}
use Rattle.kore_rules.proofs.ProgramsFound.{each_text_is_decided}
use Rattle.kore_rules.specs.AcceptanceLaws.{DefinitionFaultIsOne, SpelledDefinitionIsFaultless}
use Rattle.kore_rules.specs.AcceptanceLaws.{SpelledPatternIsFaultless, TextFaultIsOne}
use Rattle.kore_rules.specs.AcceptanceLaws.{TermTextFaultIsOne}
use Rattle.kore_rules.proofs.laws.acceptance_laws.Goals as goal

pub returns : goal.returns
returns c =
    let spelled : SpelledDefinitionIsFaultless = spelled_faultless c.text_laws.ensures.definition in
    let spelled_pattern : SpelledPatternIsFaultless =
    spelled_pattern_faultless c.text_laws.ensures.pattern in
    let text : TextFaultIsOne = text_one c.text_laws.ensures.one_definition in
    let term_text : TermTextFaultIsOne = term_text_one c.text_laws.ensures.one_pattern in
    let definition : DefinitionFaultIsOne =
    definition_fault_is_one c.signature_laws.ensures.first c.signature_laws.ensures.one in
    record {
      exclusive = accepted_not_refused definition_is_one definition spelled;
      refusal = refusal_is_one definition_is_one definition spelled text;
      decided = each_text_is_decided c.args._alloc c.token_laws.ensures.cover;
      program = program_is_one definition_is_one c.signature_laws.ensures.one;
      exclusive_term = accepted_term_not_refused pattern_is_one spelled_pattern;
      refusal_term = term_refusal_is_one pattern_is_one spelled_pattern term_text;
      decided_term = each_term_is_decided;
      start = start_is_one pattern_is_one;
      tree = definition_is_one;
      tree_term = pattern_is_one;
      definition = definition;
      term = term_is_one;
      axioms = axioms_are_one;
      spelled = spelled;
      spelled_term = spelled_pattern;
      text = text;
      term_text = term_text;
    }
