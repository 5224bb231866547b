-- The tracers to a nest follow the readers to it, and the tracer of a whole text gives the outline of its tree.
use Rattle.std.proofs.Common.{◌≡◌, ℕ, zero, suc, List, [], Option, Some, None, option_map, refl, ap, ◌∙◌}
use Rattle.es_tree.specs.declared.tokens.Token.{Token}
use Rattle.es_tree.specs.declared.tokens.ProgramGoal.{ProgramGoal}
use Rattle.es_tree.specs.declared.program.Program.{Program}
use Rattle.es_tree.specs.declared.program.ProgramItem.{ProgramItem}
use Rattle.es_grammar.specs.declared.TheConstants.{MAX_NEST}
use Rattle.es_grammar.specs.declared.places.Context.{Context}
use Rattle.es_grammar.specs.Reading.{Bytes}
use Rattle.es_outline.specs.Outline.{Marks, listed, outline, program_item_marks}
use Rattle.es_reader.specs.Basics.{◌>>=◌}
use Rattle.es_reader.specs.Modules as reads
use Rattle.es_reader.specs.Readers.{Readers, no_readers}
use Rattle.es_reader.specs.Tying.{read_program, readers_to}
use Rattle.es_reader.specs.Tying as reads_tying
use Rattle.es_trace.specs.Basics.{Traced, laid}
use Rattle.es_trace.specs.Following.{AreFollowing}
use Rattle.es_trace.specs.Modules.{trace_items}
use Rattle.es_trace.specs.Tracers.{Tracers, no_tracers}
use Rattle.es_trace.specs.Tying.{OutlineLaw, TracingLaw, one_more, trace_program, tracers_to}
use Rattle.es_trace.proofs.Declarations.{lex_laid, var_laid}
use Rattle.es_trace.proofs.Exports.{FollowDeclarations, items_laid}
use Rattle.es_trace.proofs.Expressions.{closed_expr_laid, expr_laid, lhs_laid, new_laid}
use Rattle.es_trace.proofs.Functions.{bind_pattern_laid}
use Rattle.es_trace.proofs.Heads.{FollowExpressions}
use Rattle.es_trace.proofs.Items.{declaration_laid, item_laid, stmt_laid}
use Rattle.es_trace.proofs.Assignments.{assign_laid}
use Rattle.es_trace.proofs.Callables.{functions_follow}
use Rattle.es_trace.proofs.Operators.{prefixed_laid}
use Rattle.es_trace.proofs.Targets.{target_laid, target_pattern_laid}

module _ (text : Bytes) {t : Tracers} {r : Readers} (follows : AreFollowing t r) where
  pub expressions : FollowExpressions text t r
  expressions = record {
    expr = expr_laid text follows;
    closed = closed_expr_laid text follows;
    target = target_laid text follows (functions_follow text follows);
  }

  pub declarations : FollowDeclarations text t r
  declarations = record {
    var = var_laid text follows;
    lex = lex_laid text follows;
    item = declaration_laid text follows expressions;
  }

  pub one_more_follows : AreFollowing (one_more text t) (reads_tying.one_more text r)
  one_more_follows = record {
    item = item_laid text follows expressions;
    stmt = stmt_laid text follows expressions;
    assign = assign_laid text follows (functions_follow text follows);
    prefixed = prefixed_laid text follows (functions_follow text follows);
    bind_pattern = bind_pattern_laid text follows;
    target_pattern = target_pattern_laid text follows (functions_follow text follows);
    new = new_laid text follows (functions_follow text follows);
    extended = lhs_laid text follows (functions_follow text follows);
  }

nothing_follows : AreFollowing no_tracers no_readers
nothing_follows = record {
  item = λ c marks p. refl;
  stmt = λ c marks p. refl;
  assign = λ c marks p. refl;
  prefixed = λ c marks p. refl;
  bind_pattern = λ c marks p. refl;
  target_pattern = λ c marks p. refl;
  new = λ c marks p. refl;
  extended = λ c marks p. refl;
}

pub tracing_law : TracingLaw
unfolding tracers_to readers_to
tracing_law text zero = nothing_follows
tracing_law text (suc nest) = one_more_follows text (tracing_law text nest)

-- the outline of the items that were read
pub outline_law : OutlineLaw
unfolding trace_program read_program
outline_law text goal = by_items (reads.read_items text (readers_to text MAX_NEST) goal 0) _
    (items_laid text (tracing_law text MAX_NEST) (declarations text (tracing_law text MAX_NEST)) goal [] 0)
  where
    program_of : List ProgramItem → Token → Option Program
    program_of items u = Some (record { goal = goal; items = items })

    marks_of : Marks → Token → Option Marks
    marks_of marks u = Some marks

    by_end : (items : List ProgramItem) (o : Option Token)
        → (o >>= marks_of (listed program_item_marks items [])) ≡ option_map outline (o >>= program_of items)
    by_end items None = refl
    by_end items (Some u) = refl

    by_items : (came : Option (List ProgramItem × ℕ)) (traced : Traced ℕ) → traced ≡ laid (listed program_item_marks) [] came
        → (traced >>= λ x. reads.end text x.1 >>= marks_of x.0) ≡ option_map outline (came >>= λ xs. reads.end text xs.1 >>= program_of xs.0)
    by_items None traced e = ap (λ o. o >>= λ x. reads.end text x.1 >>= marks_of x.0) e
    by_items (Some xs) traced e = ap (λ o. o >>= λ x. reads.end text x.1 >>= marks_of x.0) e ∙ by_end xs.0 (reads.end text xs.1)
