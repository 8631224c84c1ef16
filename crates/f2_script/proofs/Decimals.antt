-- What decimal numbers look like.
use Rattle.std.proofs.Common.{◌≡◌, ℕ, ◌^◌, ◌<◌, ◌≤◌, List, decimal, arith, ◌∙◌, Result, Ok}
use Rattle.std.specs.Str.Parse.{ParsesUnsigned}
use Rattle.std.specs.Str.{IsUtf8}
use Rattle.std.proofs.lemmas.Fmt.{decimal_by_steps, IsAscii-decimal, parse-decimal}
use Rattle.std.proofs.lemmas.Str.{IsUtf8-from_ascii}
use Rattle.f2_script.specs.Cuts.{Lacks}
use Rattle.f2_script.proofs.CutLemmas.{lacks_append}

pub decimal_utf8 : (n : ℕ) → n < 2 ^ 64 → IsUtf8 (decimal n)
decimal_utf8 n small = IsUtf8-from_ascii (decimal n) (IsAscii-decimal n small)

-- a byte below the digits isn't in a number
pub decimal_lacks : (byte n : ℕ) → byte < 48 → n < 2 ^ 64 → Lacks byte (decimal n)
decimal_lacks byte n low small =
    decimal_by_steps (λ _ ds. Lacks byte ds)
    (λ m h. (omega arith, tt))
    (λ m ds h k. lacks_append byte ds _ k (omega arith, tt))
    n small

-- a text that is a number is read as that number
pub parses_decimal : {E : Type 0} (r : Result ℕ E) (text digits : List ℕ) (limit x : ℕ) → digits ≡ text → ParsesUnsigned 64 10 digits r → limit < 2 ^ 64 → x ≤ limit → text ≡ decimal x → r ≡ Ok x
parses_decimal r text digits limit x e h small le d =
    let lt : x < 2 ^ 64 = omega arith in
    parse-decimal 64 x digits r lt lt (e ∙ d) h
