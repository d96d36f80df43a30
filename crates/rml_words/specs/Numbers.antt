-- Numbers among the words: 1 to 13 decimal digits, of which the first may be 0, with a value in a range.
use Rattle.std.specs.Prelude.{◌≡◌, ℕ, ◌+◌, ◌-◌, ◌*◌, ◌≤◌, ◌<◌, true, List, length, fold}
use Rattle.std.specs.List.{list_all}
use Rattle.std.specs.Char.{is_ascii_digit}

-- the number that digits stand for
abbrev pub value_of : List ℕ → ℕ
value_of digits = fold (λ n d. 10 * n + (d - 48)) 0 digits

-- the word is the number n, which lies from low to high
pub record IsNumber (low high : ℕ) (word : List ℕ) (n : ℕ) : Type 0 where
  pub some : 0 < length word
  pub few : length word ≤ 13
  pub digits : list_all is_ascii_digit word ≡ true
  pub value : n ≡ value_of word
  pub at_least : low ≤ n
  pub at_most : n ≤ high
