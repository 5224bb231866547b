-- What a production may hold depends on where it stands: the grammar parameters of ECMA-262, clause 5.1.5.
use Rattle.std.specs.Prelude.{Bool, true, false}
use Rattle.es_grammar.specs.declared.places.Context.{Context}

-- within brackets `in` is an operator
abbrev pub bracketed : Context → Context
bracketed c = record c { has_in = true }

-- in the head of `for` it isn't
abbrev pub without_in : Context → Context
without_in c = record c { has_in = false }

-- the parameters and the body of a function, by whether it is async and whether it is a generator
abbrev pub in_function : Bool → Bool → Context → Context
in_function is_async is_generator c = record { has_in = true; has_yield = is_generator; has_await = is_async; has_return = true; goal = c.goal }

-- the parameters of an arrow function, and its body where that is a block
abbrev pub in_arrow : Bool → Context → Context
in_arrow is_async c = in_function is_async false c

-- its body where that is an expression
abbrev pub in_concise : Bool → Context → Context
in_concise is_async c = record (in_function is_async false c) { has_in = c.has_in }

-- the initialiser of a field, and a static block
abbrev pub in_class : Context → Context
in_class c = record { has_in = true; has_yield = false; has_await = false; has_return = false; goal = c.goal }
