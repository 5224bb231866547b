-- The graphs that were worked out by hand fit: their tests are computed.
use Rattle.std.proofs.Common.{◌≡◌, [], refl, sym, subst}
use Rattle.pk_types.specs.declared.facts.Kind.TheVariants.{Es, Cjs}
use Rattle.pk_types.specs.declared.graph.Graph.{Graph}
use Rattle.pk_types.specs.declared.graph.Row.{Row}
use Rattle.pk_types.specs.Fitting.{Fits, RowFits}
use Rattle.pk_types.specs.Lawful.{IsLawfulAs}
use Rattle.graph_laws.specs.SmallUse.{v1, v2, v3, user, barrel, owner, barrel_graph}
use Rattle.graph_laws.specs.OpenBarrel.{open_barrel, open_owner, open_graph, plain_graph}
use Rattle.graph_laws.specs.StarBarrel.{v4, star_user, star_barrel, star_graph}
use Rattle.graph_laws.specs.RequiredModule.{requirer, passer, common, require_graph}
use Rattle.graph_laws.specs.SharedLater as shared
use Rattle.graph_laws.specs.TwoEntries as entries
use Rattle.graph_laws.specs.EntryItself as itself
use Rattle.graph_laws.proofs.FittingTests.{AllPass, row_tests, es_tests, called_tests, lawful_es, lawful_calls, row_fits, graph_fits}

-- a row of a module of ECMAScript
es : (graph : Graph) (row : Row) → AllPass (row_tests graph row) → row.facts.kind ≡ Es → AllPass (es_tests row.facts) → RowFits graph row
es graph row t k l = row_fits graph row t (subst (λ kind. IsLawfulAs kind row.facts) (sym k) (lawful_es row.facts l))

-- and of one of CommonJS
cjs : (graph : Graph) (row : Row) → AllPass (row_tests graph row) → row.facts.kind ≡ Cjs → row.facts.order ≡ [] → row.facts.imports ≡ [] → row.facts.exports ≡ []
    → row.facts.stars ≡ [] → AllPass (called_tests row.facts) → RowFits graph row
cjs graph row t k order imports exports stars c = row_fits graph row t
    (subst (λ kind. IsLawfulAs kind row.facts) (sym k)
    (record { order = order; imports = imports; exports = exports; stars = stars; calls = lawful_calls row.facts c }))

pub barrel_fits : Fits barrel_graph
barrel_fits = graph_fits barrel_graph (es barrel_graph user refl refl refl, (es barrel_graph barrel refl refl refl, (es barrel_graph (owner v1) refl refl refl, (es barrel_graph (owner v2) refl refl refl, (es barrel_graph (owner v3) refl refl refl, tt))))) refl

pub open_fits : Fits open_graph
open_fits = graph_fits open_graph (es open_graph user refl refl refl, (es open_graph open_barrel refl refl refl, (es open_graph (owner v1) refl refl refl, (es open_graph (owner v2) refl refl refl, (es open_graph (owner v3) refl refl refl, tt))))) refl

pub plain_fits : Fits plain_graph
plain_fits = graph_fits plain_graph (es plain_graph user refl refl refl, (es plain_graph open_barrel refl refl refl, (es plain_graph (open_owner v1) refl refl refl, (es plain_graph (open_owner v2) refl refl refl, (es plain_graph (open_owner v3) refl refl refl, tt))))) refl

pub star_fits : Fits star_graph
star_fits = graph_fits star_graph (es star_graph star_user refl refl refl, (es star_graph star_barrel refl refl refl, (es star_graph (owner v2) refl refl refl, (es star_graph (owner v1) refl refl refl, (es star_graph (owner v3) refl refl refl, (es star_graph (open_owner v4) refl refl refl, tt)))))) refl

pub require_fits : Fits require_graph
require_fits = graph_fits require_graph (cjs require_graph requirer refl refl refl refl refl refl refl, (es require_graph passer refl refl refl, (es require_graph (owner v2) refl refl refl, (cjs require_graph common refl refl refl refl refl refl refl, tt)))) refl

pub shared_fits : Fits shared.shared_graph
shared_fits = graph_fits shared.shared_graph (cjs shared.shared_graph shared.module_index refl refl refl refl refl refl refl, (es shared.shared_graph shared.module_p refl refl refl, (cjs shared.shared_graph shared.module_q refl refl refl refl refl refl refl, (cjs shared.shared_graph shared.module_m refl refl refl refl refl refl refl, (es shared.shared_graph shared.module_t refl refl refl, tt))))) refl

pub entries_fit : Fits entries.entries_graph
entries_fit = graph_fits entries.entries_graph (cjs entries.entries_graph entries.module_a refl refl refl refl refl refl refl, (cjs entries.entries_graph entries.module_b refl refl refl refl refl refl refl, (cjs entries.entries_graph entries.module_c refl refl refl refl refl refl refl, tt))) refl

pub itself_fits : Fits itself.itself_graph
itself_fits = graph_fits itself.itself_graph (es itself.itself_graph itself.module_index refl refl refl, (cjs itself.itself_graph itself.module_a refl refl refl refl refl refl refl, tt)) refl
