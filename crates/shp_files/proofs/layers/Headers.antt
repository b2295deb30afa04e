-- The header of a file, as bytes of the file and as a text of its own.
use Rattle.std.proofs.Common.{◌≡◌, ℕ, ◌+◌, ◌*◌, ◌≤◌, ℤ, pos, negsuc, ◌*ℤ◌, List, ◌++◌, length, take, drop}
use Rattle.std.proofs.Common.{refl, sym, ap, ◌∙◌, arith}
use Rattle.std.proofs.lemmas.Int.{ints}
use Rattle.std.proofs.lemmas.List.{length-append, length-take-le, take-append-drop}
use Rattle.shp_files.specs.Layout.{file_words, natural}
use Rattle.shp_files.specs.LayerFile.{IsHeader}
use Rattle.shp_files.specs.Checks.{declared_end}
use Rattle.shp_files.proofs.numbers.Numbers.{natural_pos}
use Rattle.shp_files.proofs.lines.WhatPasses.{HeaderPasses}
use Rattle.shp_files.proofs.numbers.Places.{StandsAt, big_at_part, little_at_part}

pub end_is : (main : List ℕ) → declared_end main ≡ 2 * natural (file_words main)
unfolding declared_end
end_is main = refl

half : (z : ℤ) (d : ℕ) → pos 2 *ℤ z ≡ pos d → (z ≡ pos (natural z)) × (2 * natural z ≡ d)
half (pos n) d e = (ap pos (sym (natural_pos n)), omega (arith, ints, e, natural_pos n))
half (negsuc n) d e = absurd (omega (arith, ints, e))

-- a header that passes, of a file that is declared to end at this byte
pub record HasHeader (file : List ℕ) (declared : ℕ) : Type 0 where
  pub passes : HeaderPasses file
  pub end : declared_end file ≡ declared

-- the header of a file that begins with the text of one
pub header_found : (file header rest : List ℕ) (declared : ℕ) → file ≡ header ++ rest → IsHeader header declared
    → 100 ≤ declared → declared ≤ length file
    → HasHeader file declared
header_found file header rest declared split is long fits =
    let stands : StandsAt file 0 header = record { tail = rest; is = split } in
    let size : length file ≡ length header + length rest = ap length split ∙ length-append header rest in
    let words : file_words file ≡ file_words header = big_at_part file 0 header 24 stands (omega (arith, is.is_whole)) in
    let halves = half (file_words file) declared (ap (λ z. pos 2 *ℤ z) words ∙ is.has_length) in
    record {
      passes = record {
        whole = omega (arith, size, is.is_whole);
        code = big_at_part file 0 header 0 stands (omega (arith, is.is_whole)) ∙ is.has_code;
        words = halves.0;
        long = omega (arith, halves.1, long);
        within = omega (arith, halves.1, fits);
        version_is = little_at_part file 0 header 28 stands (omega (arith, is.is_whole)) ∙ is.has_version;
        type_is = little_at_part file 0 header 32 stands (omega (arith, is.is_whole)) ∙ is.has_type;
      };
      end = end_is file ∙ halves.1;
    }

-- and the other way round
pub header_text : (file : List ℕ) → HeaderPasses file → IsHeader (take 100 file) (declared_end file)
header_text file passes =
    let header : List ℕ = take 100 file in
    let whole : length header ≡ 100 = length-take-le 100 file passes.whole in
    let stands : StandsAt file 0 header = record { tail = drop 100 file; is = sym (take-append-drop 100 file) } in
    let words : file_words file ≡ file_words header = big_at_part file 0 header 24 stands (omega (arith, whole)) in
    record {
      is_whole = whole;
      has_code = sym (big_at_part file 0 header 0 stands (omega (arith, whole))) ∙ passes.code;
      has_length = omega (arith, ints, words, passes.words, end_is file);
      has_version = sym (little_at_part file 0 header 28 stands (omega (arith, whole))) ∙ passes.version_is;
      has_type = sym (little_at_part file 0 header 32 stands (omega (arith, whole))) ∙ passes.type_is;
    }
