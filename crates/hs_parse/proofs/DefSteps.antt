-- Steps of a definition.
use Rattle.std.proofs.Common.{ℕ, List, Ok, Err, refl}
use Rattle.hs_base.specs.declared.pos.Pos.{Pos}
use Rattle.hs_base.specs.declared.tree.expr.Name.{Name}
use Rattle.hs_base.specs.declared.tree.script.Body.{Body}
use Rattle.hs_base.specs.declared.tree.script.Def.{Def}
use Rattle.hs_base.specs.declared.tree.script.Param.{Param}
use Rattle.rules_tokens.specs.declared.token.Token.{Token}
use Rattle.rules_grammar.specs.GrammarParts.{name}
use Rattle.hs_grammar.specs.Parser.{done, take, read, read_then, enter}
use Rattle.parse_leaves.specs.declared.halt.Halt.{Halt}
use Rattle.parse_leaves.specs.Reads.{Reads}
use Rattle.parse_leaves.proofs.Steps.{take_ok, take_err, call_ok}
use Rattle.rules_grammar.specs.Grammar as g
use Rattle.rules_grammar.specs.GrammarKinds as k

-- a definition without its `;`
pub def_end : (n : ℕ) (ts m o l v w new : List Token) (x : Name) (ps : List Param) (p : Pos) (b : Body) (e : Halt) → Reads (read (enter n) g.name ts) (Ok x) m → Reads (read (enter n) (g.many g.param) m) (Ok ps) o → Reads (take k.double_colon (λ t. done t.pos) o) (Ok p) l → Reads (read (enter n) g.def_body l) (Ok b) v → Reads {A = Pos} (take k.semicolon (λ t. done t.pos) v) (Err e) w → Reads {A = Def} (read (enter n) g.def ts) (Err e) new
unfolding read_then g.def
def_end n ts m o l v w new x ps p b e h i j d f =
    call_ok (enter n) g.name (λ x. read_then (enter n) (g.many g.param) (λ ps. take k.double_colon (λ t. read_then (enter n) g.def_body (λ b. take k.semicolon (λ t. done (record { name = x; params = ps; body = b })))))) ts m new x (Err e) h
    (call_ok (enter n) (g.many g.param) (λ ps. take k.double_colon (λ t. read_then (enter n) g.def_body (λ b. take k.semicolon (λ t. done (record { name = x; params = ps; body = b }))))) m o new ps (Err e) i
    (take_ok k.double_colon (λ t. read_then (enter n) g.def_body (λ b. take k.semicolon (λ t. done (record { name = x; params = ps; body = b })))) o l new p (Err e) j
    (call_ok (enter n) g.def_body (λ b. take k.semicolon (λ t. done (record { name = x; params = ps; body = b }))) l v new b (Err e) d
    (take_err k.semicolon (λ t. done (record { name = x; params = ps; body = b })) v w new e f))))

-- a whole definition
pub def_all : (n : ℕ) (ts m o l v new : List Token) (x : Name) (ps : List Param) (p : Pos) (b : Body) (q : Pos) → Reads (read (enter n) g.name ts) (Ok x) m → Reads (read (enter n) (g.many g.param) m) (Ok ps) o → Reads (take k.double_colon (λ t. done t.pos) o) (Ok p) l → Reads (read (enter n) g.def_body l) (Ok b) v → Reads (take k.semicolon (λ t. done t.pos) v) (Ok q) new → Reads {A = Def} (read (enter n) g.def ts) (Ok (record { name = x; params = ps; body = b })) new
unfolding read_then g.def
def_all n ts m o l v new x ps p b q h i j d f =
    call_ok (enter n) g.name (λ x. read_then (enter n) (g.many g.param) (λ ps. take k.double_colon (λ t. read_then (enter n) g.def_body (λ b. take k.semicolon (λ t. done (record { name = x; params = ps; body = b })))))) ts m new x (Ok (record { name = x; params = ps; body = b })) h
    (call_ok (enter n) (g.many g.param) (λ ps. take k.double_colon (λ t. read_then (enter n) g.def_body (λ b. take k.semicolon (λ t. done (record { name = x; params = ps; body = b }))))) m o new ps (Ok (record { name = x; params = ps; body = b })) i
    (take_ok k.double_colon (λ t. read_then (enter n) g.def_body (λ b. take k.semicolon (λ t. done (record { name = x; params = ps; body = b })))) o l new p (Ok (record { name = x; params = ps; body = b })) j
    (call_ok (enter n) g.def_body (λ b. take k.semicolon (λ t. done (record { name = x; params = ps; body = b }))) l v new b (Ok (record { name = x; params = ps; body = b })) d
    (take_ok k.semicolon (λ t. done (record { name = x; params = ps; body = b })) v new new q (Ok (record { name = x; params = ps; body = b })) f (refl, refl)))))
