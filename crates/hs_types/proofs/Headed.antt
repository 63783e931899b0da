-- The heads that the functions keep are those of the script.
use Rattle.std.proofs.Common.{◌≡◌, ap, ◌∙◌}
use Rattle.hs_base.specs.declared.tree.script.Script.{Script}
use Rattle.rules_expansion.specs.trees.Programs.{script_of}
use Rattle.rules_typing.specs.TypingScripts.{sigs_from}
use Rattle.typing_parts.specs.Views.{sigs_of}
use Rattle.typing_parts.specs.declared.funs.Funs.{Funs}
use Rattle.typing_parts.specs.declared.heads.Heads.{Heads}

pub heads_are : (new old : Funs) (h : Heads) (s : Script) → new.types ≡ old.types → new.sigs ≡ old.sigs → old.types ≡ h.types → old.sigs ≡ h.sigs
    → sigs_of h.types.nodes h.sigs ≡ sigs_from 0 (script_of s) → sigs_of new.types.nodes new.sigs ≡ sigs_from 0 (script_of s)
heads_are new old h s t1 s1 t2 s2 e =
    ap (λ z. sigs_of z.nodes new.sigs) (t1 ∙ t2) ∙ (ap (sigs_of h.types.nodes) (s1 ∙ s2) ∙ e)
