-- The classes of identifier characters over ASCII.
use Rattle.std.proofs.Common.{◌≡◌, ℕ, ◌<◌, Bool, true, false, refl, arith}
use Rattle.std.specs.Prelude.{◌||◌, ◌==◌, nat_lt}
use Rattle.std.specs.Char.{is_ascii_alphabetic, is_ascii_alphanumeric}
use Rattle.unicode_ident.proofs.IdentLemmas.{is_xid_start-ascii, is_xid_continue-ascii}
use Rattle.es_tree.specs.Characters.{is_identifier_start, is_identifier_part}

pub ascii_start : (c : ℕ) → c < 128 → is_identifier_start c ≡ (c == 0x24 || c == 0x5F || is_ascii_alphabetic c)
unfolding is_identifier_start
ascii_start c h =
    let scalar : nat_lt c 0xD800 ≡ true = grind arith in
    rw (is_xid_start-ascii c h, scalar) refl

arrange : (a x : Bool) → (a || false || false || x) ≡ (a || x)
arrange true x = refl
arrange false x = refl

pub ascii_part : (c : ℕ) → c < 128 → is_identifier_part c ≡ (c == 0x24 || (is_ascii_alphanumeric c || c == 0x5F))
unfolding is_identifier_part
ascii_part c h =
    let scalar : nat_lt c 0xD800 ≡ true = grind arith in
    let first : (c == 0x200C) ≡ false = grind arith in
    let second : (c == 0x200D) ≡ false = grind arith in
    rw (is_xid_continue-ascii c h, scalar, first, second) (arrange (c == 0x24) (is_ascii_alphanumeric c || c == 0x5F))
