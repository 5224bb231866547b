-- Functions and methods are traced as they are read.
use Rattle.std.proofs.Common.{◌≡◌, ℕ, Bool, true, false, List, [], ◌∷◌, ◌++◌, Option, Some, None, codes, length, ◌+◌, is_some, refl, ap, sym, ◌∙◌, if◌then◌else◌}
use Rattle.es_tree.specs.declared.tokens.Token.{Token}
use Rattle.es_tree.specs.declared.tokens.Goal.TheVariants.{Operand, Operator}
use Rattle.es_tree.specs.declared.parts.Body.{Body}
use Rattle.es_tree.specs.declared.parts.KeyOf.{KeyOf}
use Rattle.es_tree.specs.declared.cycle.Assign.{Assign}
use Rattle.es_tree.specs.declared.cycle.Func.{Func, roll-Func}
use Rattle.es_tree.specs.declared.cycle.Item.{Item}
use Rattle.es_tree.specs.declared.cycle.Method.{Method}
use Rattle.es_tree.specs.declared.cycle.Method.TheVariants as method_v
use Rattle.es_grammar.specs.declared.places.Context.{Context}
use Rattle.es_grammar.specs.Contexts.{in_function}
use Rattle.es_grammar.specs.Reading.{Bytes}
use Rattle.es_outline.specs.declared.mark.Role.TheVariants as is
use Rattle.es_outline.specs.declared.mark.Part.TheVariants as part
use Rattle.es_outline.specs.Outline.{◌⨾◌, Lays, Marks, begin, end, named, one, opt, within, body_marks, decl_marks, func_marks, item_marks, key_marks, method_marks, params_marks}
use Rattle.es_outline.proofs.Laws.{method-Method, method-Get, method-Set}
use Rattle.es_outline.proofs.Rolled.{func_rolled}
use Rattle.es_reader.specs.Basics.{◌>>=◌, Reader, token, is_mark, is_word, mark}
use Rattle.es_reader.specs.Functions as reads
use Rattle.es_reader.specs.Readers.{Readers}
use Rattle.es_trace.specs.Basics.{Traced, Tracer, laid}
use Rattle.es_trace.specs.Following.{AreFollowing, Follows}
use Rattle.es_trace.specs.Tracers.{Tracers}
use Rattle.es_trace.specs.Functions.{function_body, trace_callable, trace_params, func_called, func_behind, async_func_behind, trace_func, method_behind, trace_starred_method, trace_getter, trace_setter, trace_method, trace_part}
use Rattle.es_trace.proofs.Functions.{body_laid, params_laid, part_laid}
use Rattle.es_trace.proofs.Laying.{laid_as, laid_bind, laid_if, law_at, mark_at, seen_bind}

-- the marks of `(` Params `)` and a body
abbrev pub callable_marks : reads.Callable → Lays
callable_marks x = within part.Function (one x.left ⨾ params_marks x.params ⨾ one x.right ⨾ within part.FunctionBody (body_marks item_marks x.body))

module _ (text : Bytes) {t : Tracers} {r : Readers} (follows : AreFollowing t r) where
  -- the body of a function, of which something is made
  pub function_body_laid : {Y : Type 0} (c : Context) (f : Y → Lays) (before marks : Marks) (p : ℕ) (make : Body Item → Y)
      → ((x : Body Item) → end part.Function (within part.FunctionBody (body_marks item_marks x) before) ≡ f (make x) marks)
      → function_body text t c before p ≡ laid f marks (reads.read_body text r c p >>= λ x. Some (make x.0, x.1))
  unfolding function_body
  function_body_laid c f before marks p make is = laid_bind (body_marks item_marks) (begin part.FunctionBody before) (laid f marks) refl _
      (reads.read_body text r c p) _ _ (body_laid text follows c _ p) (λ x. ap (λ m. Some (m, x.1)) (is x.0))

  pub callable_laid : (c : Context) → Follows callable_marks (trace_callable text t c) (reads.read_callable text r c)
  unfolding trace_callable reads.read_callable
  callable_laid c marks p = seen_bind (laid callable_marks marks) refl (mark text Operator (codes "(") p) _ _ (λ left.
      laid_bind params_marks (one left (begin part.Function marks)) (laid callable_marks marks) refl _ (reads.read_params text r c left.end) _ _
      (params_laid text follows c _ left.end) (λ params.
      seen_bind (laid callable_marks marks) refl (mark text Operator (codes ")") params.1) _ _ (λ right.
      function_body_laid c callable_marks _ marks right.end (λ x. record { left = left; params = params.0; right = right; body = x }) (λ x. refl))))

  func_called_laid : (c : Context) (marks : Marks) (async : Option Token) (function : Token) (star n : Option Token) (p : ℕ)
      → func_called text t c (is_some async) (opt one async marks) function star n p
      ≡ laid func_marks marks (reads.func_called text r c async function star n p)
  unfolding func_called reads.func_called
  func_called_laid c marks async function star n p = laid_as callable_marks func_marks
      (named is.FunctionName n (opt one star (one function (opt one async marks)))) marks _
      (reads.read_callable text r (in_function (is_some async) (is_some star) c) p) (λ x. reads.func async function star n x)
      (callable_laid _ _ p)
      (λ x. mark_at (func_rolled (record { is_async = async; word = function; star = star; name = n; left = x.left; params = x.params; right = x.right; body = x.body })) marks)

  func_behind_laid : (c : Context) (must : Bool) (marks : Marks) (async : Option Token) (function : Token)
      → func_behind text t c must (is_some async) (opt one async marks) function
      ≡ laid func_marks marks (reads.func_behind text r c must async function)
  unfolding func_behind reads.func_behind
  func_behind_laid c must marks async function = seen_bind (laid func_marks marks) refl (reads.read_star text function.end) _ _ (λ s.
      seen_bind (laid func_marks marks) refl (reads.read_optional_name text c s.1) _ _ (λ n.
      laid_if (laid func_marks marks) (reads.fits_name must n.0) (func_called_laid c marks async function s.0 n.0 n.1) refl))

  async_func_laid : (c : Context) (must : Bool) (marks : Marks) (async : Token)
      → async_func_behind text t c must marks async ≡ laid func_marks marks (reads.async_func_behind text r c must async)
  unfolding async_func_behind reads.async_func_behind
  async_func_laid c must marks async = seen_bind (laid func_marks marks) refl (token text Operand async.end) _ _ (λ u.
      laid_if (laid func_marks marks) (reads.is_function_on_line text u) (func_behind_laid c must marks (Some async) u) refl)

  pub func_laid : (c : Context) (must : Bool) → Follows func_marks (trace_func text t c must) (reads.read_func text r c must)
  unfolding trace_func reads.read_func
  func_laid c must marks p = seen_bind (laid func_marks marks) refl (token text Operand p) _ _ (λ u.
      laid_if (laid func_marks marks) (is_word text (codes "async") u) (async_func_laid c must marks u)
      (laid_if (laid func_marks marks) (is_word text (codes "function") u) (func_behind_laid c must marks None u) refl))

  pub method_behind_laid : (c : Context) (marks : Marks) (async star : Option Token) (k : KeyOf Assign) (p : ℕ)
      → method_behind text t c (is_some async) (is_some star) (key_marks k (opt one star (opt one async marks))) p
      ≡ laid method_marks marks (reads.method_behind text r c async star k p)
  unfolding method_behind reads.method_behind
  method_behind_laid c marks async star k p = laid_as callable_marks method_marks (key_marks k (opt one star (opt one async marks))) marks _
      (reads.read_callable text r (in_function (is_some async) (is_some star) c) p)
      (λ x. method_v.Method async star k x.left x.params x.right x.body) (callable_laid _ _ p)
      (λ x. mark_at (method-Method async star k x.left x.params x.right x.body) marks)

  module _ (c : Context) (a_key : Tracer) (read_key : Reader (KeyOf Assign)) (key_follows : Follows key_marks a_key read_key) where
    starred_method_laid : (marks : Marks) (async : Option Token) (p : ℕ) → trace_starred_method text t c a_key (is_some async) (opt one async marks) p
        ≡ laid method_marks marks (reads.read_starred_method text r c read_key async p)
    unfolding trace_starred_method reads.read_starred_method
    starred_method_laid marks async p = seen_bind (laid method_marks marks) refl (reads.read_star text p) _ _ (λ s.
        laid_bind key_marks (opt one s.0 (opt one async marks)) (laid method_marks marks) refl _ (read_key s.1) _ _ (key_follows _ s.1)
        (λ k. method_behind_laid c marks async s.0 k.0 k.1))

    getter_laid : (marks : Marks) (get : Token) → trace_getter text t c a_key marks get ≡ laid method_marks marks (reads.read_getter text r c read_key get)
    unfolding trace_getter reads.read_getter
    getter_laid marks get = laid_bind key_marks (one get marks) (laid method_marks marks) refl _ (read_key get.end) _ _ (key_follows _ get.end) (λ k.
        seen_bind (laid method_marks marks) refl (mark text Operator (codes "(") k.1) _ _ (λ left.
        seen_bind (laid method_marks marks) refl (mark text Operand (codes ")") left.end) _ _ (λ right.
        function_body_laid (in_function false false c) method_marks _ marks right.end (λ x. method_v.Get get k.0 left right x)
        (λ x. mark_at (method-Get get k.0 left right x) marks))))

    setter_laid : (marks : Marks) (set : Token) → trace_setter text t c a_key marks set ≡ laid method_marks marks (reads.read_setter text r c read_key set)
    unfolding trace_setter reads.read_setter
    setter_laid marks set = laid_bind key_marks (one set marks) (laid method_marks marks) refl _ (read_key set.end) _ _ (key_follows _ set.end) (λ k.
        seen_bind (laid method_marks marks) refl (mark text Operator (codes "(") k.1) _ _ (λ left.
        laid_bind decl_marks (one left (begin part.Function (key_marks k.0 (one set marks)))) (laid method_marks marks) refl _
        (reads.read_part text r (in_function false false c) left.end) _ _ (part_laid text follows (in_function false false c) _ left.end) (λ x.
        seen_bind (laid method_marks marks) refl (mark text Operator (codes ")") x.1) _ _ (λ right.
        function_body_laid (in_function false false c) method_marks _ marks right.end (λ y. method_v.Set set k.0 left x.0 right y)
        (λ y. mark_at (method-Set set k.0 left x.0 right y) marks)))))

    pub method_laid : Follows method_marks (trace_method text t c a_key) (reads.read_method text r c read_key)
    unfolding trace_method reads.read_method
    method_laid marks p = seen_bind (laid method_marks marks) refl (token text Operand p) _ _ (λ u.
        laid_if (laid method_marks marks) (reads.begins_accessor text (codes "get") u) (getter_laid marks u)
        (laid_if (laid method_marks marks) (reads.begins_accessor text (codes "set") u) (setter_laid marks u)
        (laid_if (laid method_marks marks) (reads.begins_async_method text u) (starred_method_laid marks (Some u) u.end)
        (starred_method_laid marks None p))))
