-- When a line is not the line of a value.
use Rattle.std.proofs.Common.{◌≡◌, ◌≢◌, ℕ, List, ◌++◌, length, drop, codes, refl, Some, None, sym, ap, ◌∙◌, arith, inl, inr}
use Rattle.std.proofs.lemmas.Bool.{cases_lt}
use Rattle.std.proofs.lemmas.List.{append_assoc, drop_at, drop-append-le, length-append}
use Rattle.std.specs.Str.Pattern.{FindsText}
use Rattle.published.specs.Reading.{value_line}

-- what stands behind the label in the line of a value
behind_label : (line label bytes : List ℕ) → line ≡ value_line label bytes
    → drop (length label) line ≡ codes " = { " ++ (bytes ++ codes " }")
behind_label line label bytes e = ap (drop (length label)) e ∙ drop_at label _ (length label) refl

-- a line without the mark between label and bytes
pub undivided : (line : List ℕ) → FindsText (codes " = { ") line None → (label bytes : List ℕ) → line ≢ value_line label bytes
undivided line lacks label bytes e =
    let long = ap length e ∙ length-append label _ in
    lacks (length label) (omega (arith, long)) (bytes ++ codes " }") (behind_label line label bytes e)

-- a line whose rest behind the first such mark does not end as bytes do
pub unclosed : (line : List ℕ) (i j : ℕ) → FindsText (codes " = { ") line (Some (i, j))
    → ((front : List ℕ) → drop j line ≢ front ++ codes " }") → (label bytes : List ℕ) → line ≢ value_line label bytes
unclosed line i j finds stays_open label bytes e =
    elim (cases_lt (length label) i) [
      | inl before ↦ finds.0 (length label) before (bytes ++ codes " }") (behind_label line label bytes e)
      | inr first ↦
          let front : List ℕ = label ++ (codes " = { " ++ bytes) in
          let whole : line ≡ front ++ codes " }" = e ∙ sym (append_assoc label (codes " = { " ++ bytes) (codes " }")) in
          let long = length-append label (codes " = { " ++ bytes) in
          let more = length-append (codes " = { ") bytes in
          stays_open (drop j front) (ap (drop j) whole ∙ drop-append-le j front _ (omega (arith, finds.1.ends, long, more)))
    ]
