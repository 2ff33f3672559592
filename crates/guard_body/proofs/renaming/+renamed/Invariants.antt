use Rattle.std.proofs.Common.{◌≡◌, ◌+◌, ◌*◌, map, take}
use Rattle.term_core.specs.RulePatterns.{plain_pattern}
use Rattle.term_core.specs.PatternLists.{plain_patterns}
use Rattle.term_core.proofs.PatternLaws.{depth, depths}
use Rattle.ml_image.specs.Images.{renamed}
use Rattle.guard_body.specs.Renaming.{number_in}
use Rattle.guard_body.proofs.renaming.+renamed.Given as goal

abbrev pub decreases-renamed : goal.decreases-renamed
decreases-renamed l = 2 * depth (plain_pattern l.pat.now)

abbrev pub decreases-all_renamed : goal.decreases-all_renamed
decreases-all_renamed l = 2 * depths (plain_patterns l.pats.now) + 1

abbrev pub invariant-all_renamed-loop-pat : goal.invariant-all_renamed-loop-pat
invariant-all_renamed-loop-pat l =
    map plain_pattern l.made.items
    ≡ map (renamed (number_in l.numbers)) (map plain_pattern (take l.pat-index l.pats))
