use Rattle.rules_meaning.specs.Values.{value_of}
use Rattle.frame_stack.proofs.Forms.{not_one}
use Rattle.frame_stack.proofs.asking.of_one.Goals as goal

pub returns-in_default : goal.returns-in_default
returns-in_default c =
    let n = c.in_default in
    not_one c.args.primitive (value_of c.args.value) n.not-PutStr n.not-PutStrLn n.not-HPutStrLn n.not-NewMVar n.not-TakeMVar n.not-ReadMVar n.not-TryTakeMVar n.not-ThreadDelay n.not-Release
