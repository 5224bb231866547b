-- Statements and declarations have no mark of an import or an export, if their parts have none.
use Rattle.std.specs.Prelude.{Option, Some, None}
use Rattle.std.proofs.Common.{refl}
use Rattle.es_tree.specs.declared.parts.Initializer.{Initializer}
use Rattle.es_tree.specs.declared.cycle.Arrow.TheOpen.{Item-F, Case-F, Stmt-F, Init-F, For-F, Head-F}
use Rattle.es_outline.specs.declared.mark.Mark.TheVariants as mark
use Rattle.es_outline.specs.declared.mark.Role.TheVariants as is
use Rattle.es_outline.specs.declared.mark.Part.TheVariants as part
use Rattle.es_outline.specs.Outline.{inner, opt, initializer_marks}
use Rattle.es_outline.proofs.Opens.{item_mapped, case_mapped, stmt_mapped, init_mapped, for_mapped, head_mapped, decl_mapped}
use Rattle.facts_laws.proofs.Keeping.{Keeps, keeps_nothing, keeps_put, ◌then◌, keeps_told, keeps_one, keeps_within, keeps_semicolon, keeps_opt_one, keeps_opt_told, keeps_listed}
use Rattle.facts_laws.proofs.Kept.{KeptAssign, KeptBind, CaseLayer, case_of, ForLayer, for_of, HeadLayer, head_of, InitLayer, init_of, ItemLayer, item_of, StmtLayer, stmt_of, DeclLayer, decl_of, decl_lays}

pub item_step : (y : ItemLayer) → Keeps (item_mapped (item_of y))
item_step (Item-F.Stmt stmt) = stmt.1
item_step (Item-F.Item::Lex lex) = (keeps_within part.Declaration refl (keeps_one lex.word then keeps_listed _ _ _ (λ x. x.item.1 then keeps_opt_one x.comma) lex.decls) then keeps_semicolon lex.semi)
item_step (Item-F.Item::Func func) = func.1
item_step (Item-F.Item::Class class) = class.1

pub case_step : (y : CaseLayer) → Keeps (case_mapped (case_of y))
case_step (Case-F.Case word test colon items) = keeps_one word then keeps_listed _ _ _ (λ x. x.item.1 then keeps_opt_one x.comma) test.list then keeps_one colon then keeps_listed _ _ _ (λ x. x.1) items
case_step (Case-F.Default word colon items) = keeps_one word then keeps_one colon then keeps_listed _ _ _ (λ x. x.1) items

pub stmt_step : (y : StmtLayer) → Keeps (stmt_mapped (stmt_of y))
stmt_step (Stmt-F.Stmt::Block body) = keeps_within part.Block refl (keeps_one body.left then keeps_listed _ _ _ (λ x. x.1) body.items then keeps_one body.right)
stmt_step (Stmt-F.Stmt::Empty mark) = keeps_one mark
stmt_step (Stmt-F.Stmt::Var var) = (keeps_within part.Declaration refl (keeps_one var.word then keeps_listed _ _ _ (λ x. x.item.1 then keeps_opt_one x.comma) var.decls) then keeps_semicolon var.semi)
stmt_step (Stmt-F.If word left test right stmt None) = keeps_one word then keeps_one left then keeps_listed _ _ _ (λ x. x.item.1 then keeps_opt_one x.comma) test.list then keeps_one right then stmt.1 then keeps_nothing
stmt_step (Stmt-F.If word left test right stmt (Some other)) = keeps_one word then keeps_one left then keeps_listed _ _ _ (λ x. x.item.1 then keeps_opt_one x.comma) test.list then keeps_one right then stmt.1 then (keeps_one other.word then other.stmt.1)
stmt_step (Stmt-F.For each) = each.1
stmt_step (Stmt-F.While word left test right stmt) = keeps_one word then keeps_one left then keeps_listed _ _ _ (λ x. x.item.1 then keeps_opt_one x.comma) test.list then keeps_one right then stmt.1
stmt_step (Stmt-F.Do word stmt while_word left test right semi) = keeps_one word then stmt.1 then keeps_one while_word then keeps_one left then keeps_listed _ _ _ (λ x. x.item.1 then keeps_opt_one x.comma) test.list then keeps_one right then keeps_semicolon semi
stmt_step (Stmt-F.Continue word label semi) = keeps_one word then keeps_opt_told is.Label label refl then keeps_semicolon semi
stmt_step (Stmt-F.Break word label semi) = keeps_one word then keeps_opt_told is.Label label refl then keeps_semicolon semi
stmt_step (Stmt-F.Return word None semi) = keeps_one word then keeps_nothing then keeps_semicolon semi
stmt_step (Stmt-F.Return word (Some value) semi) = keeps_one word then keeps_listed _ _ _ (λ x. x.item.1 then keeps_opt_one x.comma) value.list then keeps_semicolon semi
stmt_step (Stmt-F.With word left object right stmt) = keeps_told is.With word refl then keeps_one left then keeps_listed _ _ _ (λ x. x.item.1 then keeps_opt_one x.comma) object.list then keeps_one right then stmt.1
stmt_step (Stmt-F.Switch word left value right left_brace cases right_brace) = keeps_one word then keeps_one left then keeps_listed _ _ _ (λ x. x.item.1 then keeps_opt_one x.comma) value.list then keeps_one right then keeps_within part.Switch refl (keeps_one left_brace then keeps_listed _ _ _ (λ x. x.1) cases then keeps_one right_brace)
stmt_step (Stmt-F.Labelled label colon stmt) = keeps_told is.Label label refl then keeps_one colon then stmt.1
stmt_step (Stmt-F.Throw word value semi) = keeps_one word then keeps_listed _ _ _ (λ x. x.item.1 then keeps_opt_one x.comma) value.list then keeps_semicolon semi
stmt_step (Stmt-F.TryCatch word body catch None handler None) = keeps_one word then keeps_within part.Block refl (keeps_one body.left then keeps_listed _ _ _ (λ x. x.1) body.items then keeps_one body.right) then keeps_one catch then keeps_within part.Catch refl (keeps_nothing then keeps_within part.Block refl (keeps_one handler.left then keeps_listed _ _ _ (λ x. x.1) handler.items then keeps_one handler.right)) then keeps_nothing
stmt_step (Stmt-F.TryCatch word body catch None handler (Some finally)) = keeps_one word then keeps_within part.Block refl (keeps_one body.left then keeps_listed _ _ _ (λ x. x.1) body.items then keeps_one body.right) then keeps_one catch then keeps_within part.Catch refl (keeps_nothing then keeps_within part.Block refl (keeps_one handler.left then keeps_listed _ _ _ (λ x. x.1) handler.items then keeps_one handler.right)) then (keeps_one finally.word then keeps_within part.Block refl (keeps_one finally.block.left then keeps_listed _ _ _ (λ x. x.1) finally.block.items then keeps_one finally.block.right))
stmt_step (Stmt-F.TryCatch word body catch (Some parameter) handler None) = keeps_one word then keeps_within part.Block refl (keeps_one body.left then keeps_listed _ _ _ (λ x. x.1) body.items then keeps_one body.right) then keeps_one catch then keeps_within part.Catch refl ((keeps_one parameter.left then parameter.bind.1 then keeps_one parameter.right) then keeps_within part.Block refl (keeps_one handler.left then keeps_listed _ _ _ (λ x. x.1) handler.items then keeps_one handler.right)) then keeps_nothing
stmt_step (Stmt-F.TryCatch word body catch (Some parameter) handler (Some finally)) = keeps_one word then keeps_within part.Block refl (keeps_one body.left then keeps_listed _ _ _ (λ x. x.1) body.items then keeps_one body.right) then keeps_one catch then keeps_within part.Catch refl ((keeps_one parameter.left then parameter.bind.1 then keeps_one parameter.right) then keeps_within part.Block refl (keeps_one handler.left then keeps_listed _ _ _ (λ x. x.1) handler.items then keeps_one handler.right)) then (keeps_one finally.word then keeps_within part.Block refl (keeps_one finally.block.left then keeps_listed _ _ _ (λ x. x.1) finally.block.items then keeps_one finally.block.right))
stmt_step (Stmt-F.TryFinally word body finally) = keeps_one word then keeps_within part.Block refl (keeps_one body.left then keeps_listed _ _ _ (λ x. x.1) body.items then keeps_one body.right) then (keeps_one finally.word then keeps_within part.Block refl (keeps_one finally.block.left then keeps_listed _ _ _ (λ x. x.1) finally.block.items then keeps_one finally.block.right))
stmt_step (Stmt-F.Debugger word semi) = keeps_one word then keeps_semicolon semi
stmt_step (Stmt-F.Stmt::Expr expr semi) = keeps_listed _ _ _ (λ x. x.item.1 then keeps_opt_one x.comma) expr.list then keeps_semicolon semi

pub init_step : (y : InitLayer) → Keeps (init_mapped (init_of y))
init_step (Init-F.Init::Var word decls) = keeps_within part.Declaration refl (keeps_one word then keeps_listed _ _ _ (λ x. x.item.1 then keeps_opt_one x.comma) decls)
init_step (Init-F.Init::Lex lex) = keeps_within part.Declaration refl (keeps_one lex.word then keeps_listed _ _ _ (λ x. x.item.1 then keeps_opt_one x.comma) lex.decls)
init_step (Init-F.Init::Expr expr) = keeps_listed _ _ _ (λ x. x.item.1 then keeps_opt_one x.comma) expr.list

pub for_step : (y : ForLayer) → Keeps (for_mapped (for_of y))
for_step (For-F.Loop word left None first None second None right stmt) = keeps_within part.For refl (keeps_one word then keeps_one left then keeps_nothing then keeps_one first then keeps_nothing then keeps_one second then keeps_nothing then keeps_one right then stmt.1)
for_step (For-F.Loop word left None first None second (Some update) right stmt) = keeps_within part.For refl (keeps_one word then keeps_one left then keeps_nothing then keeps_one first then keeps_nothing then keeps_one second then keeps_listed _ _ _ (λ x. x.item.1 then keeps_opt_one x.comma) update.list then keeps_one right then stmt.1)
for_step (For-F.Loop word left None first (Some test) second None right stmt) = keeps_within part.For refl (keeps_one word then keeps_one left then keeps_nothing then keeps_one first then keeps_listed _ _ _ (λ x. x.item.1 then keeps_opt_one x.comma) test.list then keeps_one second then keeps_nothing then keeps_one right then stmt.1)
for_step (For-F.Loop word left None first (Some test) second (Some update) right stmt) = keeps_within part.For refl (keeps_one word then keeps_one left then keeps_nothing then keeps_one first then keeps_listed _ _ _ (λ x. x.item.1 then keeps_opt_one x.comma) test.list then keeps_one second then keeps_listed _ _ _ (λ x. x.item.1 then keeps_opt_one x.comma) update.list then keeps_one right then stmt.1)
for_step (For-F.Loop word left (Some init) first None second None right stmt) = keeps_within part.For refl (keeps_one word then keeps_one left then init.1 then keeps_one first then keeps_nothing then keeps_one second then keeps_nothing then keeps_one right then stmt.1)
for_step (For-F.Loop word left (Some init) first None second (Some update) right stmt) = keeps_within part.For refl (keeps_one word then keeps_one left then init.1 then keeps_one first then keeps_nothing then keeps_one second then keeps_listed _ _ _ (λ x. x.item.1 then keeps_opt_one x.comma) update.list then keeps_one right then stmt.1)
for_step (For-F.Loop word left (Some init) first (Some test) second None right stmt) = keeps_within part.For refl (keeps_one word then keeps_one left then init.1 then keeps_one first then keeps_listed _ _ _ (λ x. x.item.1 then keeps_opt_one x.comma) test.list then keeps_one second then keeps_nothing then keeps_one right then stmt.1)
for_step (For-F.Loop word left (Some init) first (Some test) second (Some update) right stmt) = keeps_within part.For refl (keeps_one word then keeps_one left then init.1 then keeps_one first then keeps_listed _ _ _ (λ x. x.item.1 then keeps_opt_one x.comma) test.list then keeps_one second then keeps_listed _ _ _ (λ x. x.item.1 then keeps_opt_one x.comma) update.list then keeps_one right then stmt.1)
for_step (For-F.In word left head in_word object right stmt) = keeps_within part.For refl (keeps_one word then keeps_one left then head.1 then keeps_one in_word then keeps_listed _ _ _ (λ x. x.item.1 then keeps_opt_one x.comma) object.list then keeps_one right then stmt.1)
for_step (For-F.Of word await_word left head of_word values right stmt) = keeps_within part.For refl (keeps_one word then keeps_opt_told is.Await await_word refl then keeps_one left then head.1 then keeps_one of_word then values.1 then keeps_one right then stmt.1)

pub head_step : (y : HeadLayer) → Keeps (head_mapped (head_of y))
head_step (Head-F.Bind word bind) = keeps_within part.Declaration refl (keeps_one word then bind.1 then keeps_put mark.Iterated refl)
head_step (Head-F.Target target) = target.1

decl_initial : (bind : KeptBind) (initial : Option (Initializer KeptAssign)) → Keeps (opt (initializer_marks inner) (decl_lays (record { bind = bind; initial = initial })).initial)
decl_initial bind None = keeps_nothing
decl_initial bind (Some initial) = keeps_told is.Initializes initial.equals refl then initial.value.1

pub decl_step : (y : DeclLayer) → Keeps (decl_mapped (decl_of y))
decl_step y = y.bind.1 then decl_initial y.bind y.initial
