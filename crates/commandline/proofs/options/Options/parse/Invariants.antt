use Rattle.std.proofs.Common.{length}
use Rattle.commandline.proofs.options.Options.parse.Given as goal

-- The words that are left.
abbrev pub decreases-loop-word : goal.decreases-loop-word
decreases-loop-word l = length l.words.rest.items
