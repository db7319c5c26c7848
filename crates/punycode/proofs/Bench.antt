-- The samples of RFC 3492, section 7.1, and the limits' edges: one table, one claim, by computation. Assumes nothing.
use mathlib.Core.Path.{◌≡◌, refl}
use mathlib.Core.List.{List, [], ◌∷◌, ◌++◌, map}
use Prim.Native.Nat.{ℕ, ◌+◌}
use Prim.Native.Char.{code}
use Prim.Native.String.{String}
use lib.ListN.{length, replicate}
use Rattle.parser.specs.Digits.{within}
use Rattle.parser.specs.Scalar.{is_scalar}
use Rattle.punycode.specs.Answer.{decoded}
use Rattle.punycode.specs.Decode.{puny_digit, threshold_of, delta_of, lowered, adapted, turn_of, insert_at, Spelt, spelt, long, broken, round_of, rounds}

unfoldable codes : String → List ℕ
codes String.[] = []
codes (String.◌∷◌ c t) = code c ∷ codes t

-- as many basic characters as there are places
unfoldable full : List ℕ
full = replicate 128 97

-- the basic characters, the code behind the delimiter, and what both stand for
abbrev Line : Type 0
Line = List ℕ × String × Spelt

unfoldable read : Line → Spelt
unfolding codes decoded rounds round_of insert_at turn_of adapted lowered delta_of threshold_of puny_digit within is_scalar
read r = decoded (length r.0) (length r.0 + 1) ((r.0 ++ codes "_") ++ codes r.1)

unfoldable expected : Line → Spelt
expected r = r.2

-- A to S in the RFC's order. A and E are written in numbers, since antt takes no letters that run from right to left. I stands there
-- with an upper-case letter in its code, which is no digit here, and again without. Then six single values about the edges of what is
-- a scalar value, and six for which there is no room: what is wrong with the next character is said first, but a basic one is only counted.
unfoldable lines : List Line
unfolding codes full
lines =
    ([], "egbpdaj6bu4bxfgehfvwxn", spelt (0x0644 ∷ 0x064a ∷ 0x0647 ∷ 0x0645 ∷ 0x0627 ∷ 0x0628 ∷ 0x062a ∷ 0x0643 ∷ 0x0644 ∷ 0x0645 ∷ 0x0648 ∷ 0x0634 ∷ 0x0639 ∷ 0x0631 ∷ 0x0628 ∷ 0x064a ∷ 0x061f ∷ [])) ∷
    ([], "ihqwcrb4cv8a8dqg056pqjye", spelt (codes "他们为什么不说中文")) ∷
    ([], "ihqwctvzc91f659drss3x8bo0yb", spelt (codes "他們爲什麽不說中文")) ∷
    (codes "Proprostnemluvesky", "uyb24dma41a", spelt (codes "Pročprostěnemluvíčesky")) ∷
    ([], "4dbcagdahymbxekheh6e0a7fei0b", spelt (0x05dc ∷ 0x05de ∷ 0x05d4 ∷ 0x05d4 ∷ 0x05dd ∷ 0x05e4 ∷ 0x05e9 ∷ 0x05d5 ∷ 0x05d8 ∷ 0x05dc ∷ 0x05d0 ∷ 0x05de ∷ 0x05d3 ∷ 0x05d1 ∷ 0x05e8 ∷ 0x05d9 ∷ 0x05dd ∷ 0x05e2 ∷ 0x05d1 ∷ 0x05e8 ∷ 0x05d9 ∷ 0x05ea ∷ [])) ∷
    ([], "i1baa7eci9glrd9b2ae1bj0hfcgg6iyaf8o0a1dig0cd", spelt (codes "यहलोगहिन्दीक्योंनहींबोलसकतेहैं")) ∷
    ([], "n8jok5ay5dzabd5bym9f0cm5685rrjetr6pdxa", spelt (codes "なぜみんな日本語を話してくれないのか")) ∷
    ([], "989aomsvi5e83db1d2a355cv1e0vak1dwrv93d5xbh15a0dt30a5jpsd879ccm6fea98c", spelt (codes "세계의모든사람들이한국어를이해한다면얼마나좋을까")) ∷
    ([], "b1abfaaepdrnnbgefbaDotcwatmq2g4l", broken) ∷
    ([], "b1abfaaepdrnnbgefbadotcwatmq2g4l", spelt (codes "почемужеонинеговорятпорусски")) ∷
    (codes "PorqunopuedensimplementehablarenEspaol", "fmd56a", spelt (codes "PorquénopuedensimplementehablarenEspañol")) ∷
    (codes "TisaohkhngthchnitingVit", "kjcr8268qyxafd2f1b9g", spelt (codes "TạisaohọkhôngthểchỉnóitiếngViệt")) ∷
    (codes "3B", "ww4c5e180e575a65lsy2b", spelt (codes "3年B組金八先生")) ∷
    (codes "-with-SUPER-MONKEYS", "pc58ag80a8qai00g7n9n", spelt (codes "安室奈美恵-with-SUPER-MONKEYS")) ∷
    (codes "Hello-Another-Way-", "fc4qua05auwb3674vfr0b", spelt (codes "Hello-Another-Way-それぞれの場所")) ∷
    (codes "2", "u9tlzr9756bt3uc0v", spelt (codes "ひとつ屋根の下2")) ∷
    (codes "MajiKoi5", "783gue6qz075azm5e", spelt (codes "MajiでKoiする5秒前")) ∷
    (codes "de", "jg4avhby1noc0d", spelt (codes "パフィーdeルンバ")) ∷
    ([], "d9juau41awczczp", spelt (codes "そのスピードで")) ∷
    (codes "-> $1.00 <-", "", spelt (codes "-> $1.00 <-")) ∷
    ([], "hb9b", spelt (0xd7ff ∷ [])) ∷
    ([], "ib9b", broken) ∷
    ([], "zy0c", broken) ∷
    ([], "0y0c", spelt (0xe000 ∷ [])) ∷
    ([], "dn32g", spelt (0x10ffff ∷ [])) ∷
    ([], "en32g", broken) ∷
    (full, "a", long) ∷
    (full, "9", broken) ∷
    (full, "-", broken) ∷
    (full, "rs329c", broken) ∷
    (full, "99999999999999a", broken) ∷
    (97 ∷ full, "-", long) ∷ []

claim : map read lines ≡ map expected lines
unfolding read expected lines
claim = refl
