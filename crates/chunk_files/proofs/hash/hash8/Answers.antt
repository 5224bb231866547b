use Rattle.std.proofs.Common.{◌≡◌, ◌*◌, length, ap, ◌∙◌, arith}
use Rattle.hex.specs.Hex.{lower_digits, encode_lower}
use Rattle.hex.proofs.HexLemmas.{length-encode_with}
use Rattle.sha2.specs.Sha256.{sha256}
use Rattle.sha2.proofs.Facts256.{length-sha256}
use Rattle.chunk_files.proofs.hash.hash8.Goals as goal

pub slice_bounds-from_slice-end : goal.slice_bounds-from_slice-end
slice_bounds-from_slice-end c =
    let digest = sha256 c.args.bytes.now in
    let is = c.as_bytes.ensures.value ∙ c.in_ok-digits.ensures ∙ ap encode_lower c.digest.ensures in
    let long : length c.as_bytes.result.now ≡ 64 = ap length is ∙ length-encode_with lower_digits digest ∙ ap (λ n. 2 * n) (length-sha256 c.args.bytes.now) in
    search (arith, long)
