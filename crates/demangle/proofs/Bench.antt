-- Document 01's starred boards: one table, one claim, by computation. Assumes nothing.
use mathlib.Core.Path.{◌≡◌, refl}
use mathlib.Core.List.{List, [], ◌∷◌, ◌++◌, map}
use Prim.Native.Nat.{ℕ}
use Prim.Native.Char.{code}
use Prim.Native.String.{String}
use lib.ListN.{length, replicate}
use Rattle.pieces.specs.declared.mode.Mode.{Mode}
use Rattle.pieces.specs.declared.mode.Mode.TheVariants.{Plain, Short}
use Rattle.demangle.specs.Rows.{Told, whole, damaged, unknown, Row, row, row_of}
use Rattle.printer.specs.Over.{over}
use Rattle.parser.specs.Bytes as parserbytes
use Rattle.parser.specs.Digits as parserdigits
use Rattle.parser.specs.Names as parsernames
use Rattle.parser.specs.Number as parsernumber
use Rattle.parser.specs.Scalar as parserscalar
use Rattle.punycode.specs.Answer as punycodeanswer
use Rattle.punycode.specs.Decode as punycodedecode
use Rattle.punycode.specs.Steps as punycodesteps
use Rattle.nibbles.specs.Chars as nibbleschars
use Rattle.nibbles.specs.Steps as nibblessteps
use Rattle.nibbles.specs.Uint as nibblesuint
use Rattle.nibbles.specs.Utf8 as nibblesutf8
use Rattle.pieces.specs.Basic as piecesbasic
use Rattle.pieces.specs.Laid as pieceslaid
use Rattle.pieces.specs.Names as piecesnames
use Rattle.pieces.specs.Numeral as piecesnumeral
use Rattle.pieces.specs.Piece as piecespiece
use Rattle.pieces.specs.Quoted as piecesquoted
use Rattle.pieces.specs.Words as pieceswords
use Rattle.printer.specs.Lay as printerlay
use Rattle.printer.specs.Letters as printerletters
use Rattle.printer.specs.Model as printermodel
use Rattle.printer.specs.Over as printerover
use Rattle.printer.specs.Readings as printerreadings
use Rattle.printer.specs.Says as printersays
use Rattle.demangle.specs.Accept as accept
use Rattle.demangle.specs.Rows as rows

unfoldable codes : String → List ℕ
codes String.[] = []
codes (String.◌∷◌ c t) = code c ∷ codes t

-- the mode, the symbol and the buffer's length; the number, the state and the text
abbrev Line : Type 0
Line = Mode × String × ℕ × ℕ × Told × List ℕ

unfoldable read : Line → Row
unfolding codes parserbytes.past_first parserbytes.past parserbytes.first_byte parserbytes.byte_at parserbytes.space_of parserbytes.space_at parserdigits.within parserdigits.digit_of parserdigits.digits parserdigits.value parsernames.part_of parsernames.bytes_after parsernames.span_at parsernames.later_of parsernames.last_of parsernames.split_at parsernames.coded parsernames.coded_at parsernames.plain parsernames.ident_at parsernumber.first_digit parsernumber.digit_at parsernumber.number_at parsernumber.small parsernumber.counted parsernumber.integer62 parsernumber.raised parsernumber.optional62 parsernumber.decimal parsernumber.length10 parsernumber.hex_at parsernumber.below parsernumber.back_at parserscalar.is_scalar punycodeanswer.decoded punycodeanswer.shown punycodedecode.puny_digit punycodedecode.threshold_of punycodedecode.delta_of punycodedecode.lowered punycodedecode.adapted punycodedecode.turn_of punycodedecode.insert_at punycodedecode.round_of punycodedecode.rounds punycodesteps.limited punycodesteps.as_digit punycodesteps.as_delta punycodesteps.as_turn nibbleschars.octets nibbleschars.char_at nibbleschars.text_of nibbleschars.is_text nibblessteps.first_at nibblessteps.octet_at nibblessteps.more_in nibblessteps.more_at nibblessteps.settled_of nibblessteps.tail_in nibblessteps.tail_at nibblesuint.trim nibblesuint.hex_value nibblesutf8.utf8 nibblesutf8.encoded nibblesutf8.after nibblesutf8.payload nibblesutf8.first nibblesutf8.decoded nibblesutf8.decode piecesbasic.basic piecesbasic.among piecesbasic.name_in piecesbasic.is_basic piecesbasic.basic_name pieceslaid.laid pieceslaid.room piecesnames.basic_part piecesnames.parts piecesnames.raw_name piecesnames.shown_name piecesnames.name_text piecesnames.abi_text piecesnumeral.numeral_in piecesnumeral.numeral piecesnumeral.decimal piecesnumeral.hex_digit piecesnumeral.hexadecimal piecesnumeral.hash_text piecesnumeral.depth_text piecesnumeral.life_text piecespiece.spell piecespiece.spelled piecespiece.render piecesquoted.unicode piecesquoted.other piecesquoted.unquoted piecesquoted.escaped piecesquoted.escaped_all piecesquoted.quoted piecesquoted.chars_of pieceswords.ascii pieceswords.word_at printerlay.doing printerlay.lays printerlay.lay printermodel.space_name printermodel.small_pieces printermodel.unless_empty printermodel.special_name printermodel.nested_name printerletters.any_of printerletters.is_unsigned printerletters.is_signed printermodel.unbound printermodel.life_of printermodel.ref_life printermodel.end_life printermodel.one_life printermodel.lives printermodel.binder printermodel.sep_of printermodel.eat printermodel.by_tag printermodel.or_tag printermodel.krate printermodel.nested printermodel.lifetime printermodel.bound_life printermodel.bound printermodel.ref_rest printermodel.reference printermodel.abi_pieces printermodel.maybe_abi printermodel.head_pieces printermodel.sig_head printermodel.large_pieces printermodel.integer_pieces printermodel.uint printermodel.int printermodel.integer printermodel.boolean printermodel.character printermodel.literal printermodel.unsized_literal printermodel.list_n printermodel.type printermodel.arg printermodel.trt printermodel.qself printermodel.nest printermodel.imp printermodel.back printermodel.bound_to printermodel.bound_name printermodel.binding printermodel.bindings printermodel.range printermodel.pat printermodel.alternatives printermodel.field printermodel.open_back printermodel.list_of printermodel.open_generic printermodel.shut_path printermodel.open_path printermodel.dyn_trait printermodel.says printermodel.element printermodel.list printermodel.generic printermodel.refer printermodel.pointer printermodel.size printermodel.array printermodel.tuple printermodel.arrow printermodel.result printermodel.parameters printermodel.signature printermodel.function printermodel.traits printermodel.object printermodel.patterned printermodel.refer_to printermodel.between printermodel.body_by printermodel.braced_by printermodel.ref_const printermodel.fields printermodel.variant printermodel.adt printermodel.path_tags printermodel.type_tags printermodel.const_tags printermodel.basic_or printermodel.target printermodel.level printerover.over printerreadings.tag_at printerreadings.mark_at printerreadings.named_at printerreadings.life_at printerreadings.abi_at printerreadings.behind_unsafe printerreadings.head_at printerreadings.flag_at printerreadings.scalar_at printerreadings.literal_at printersays.onto printersays.next printersays.◌>>=◌ printersays.◌then◌ printersays.give printersays.emit printersays.on_error printersays.breaks printersays.broken printersays.reader printersays.taken printersays.need printersays.choose printersays.mute printersays.caught printersays.pick accept.starts accept.prefix_of accept.is_upper accept.all_ascii accept.path_at accept.second_at accept.behind_at accept.reading_of accept.verdict_by accept.verdict_at accept.verdict_of rows.refusal_number rows.check_number rows.number_by rows.number_of rows.suffix_by rows.suffix_from rows.answer rows.first_path rows.text_of rows.shown rows.row_by rows.row_of
read l = row_of l.0 (codes l.1) (replicate l.2 0)

unfoldable expected : Line → Row
unfolding codes over
expected l = row l.3 (length l.5) l.4 (over (replicate l.2 0) 0 l.5)

unfoldable lines : List Line
unfolding codes
lines =
    (Plain, "_RNvC6_123foo3bar", 64, 0, whole, codes "123foo::bar") ∷
    (Plain, "_RNvC6_123foo3bar", 4, 4, unknown, codes "123f") ∷
    (Plain, "_RCs0_3abc", 64, 0, whole, codes "abc[2]") ∷
    (Short, "_RCs0_3abc", 64, 0, whole, codes "abc") ∷
    (Plain, "_RC0", 0, 0, whole, []) ∷
    (Plain, "_RCu9bcher_kva", 64, 0, whole, (codes "b" ++ (195 ∷ 188 ∷ codes "cher"))) ∷
    (Plain, "_RNCC1as_0", 64, 0, whole, codes "a::{closure#1}") ∷
    (Plain, "_RINvC1a1bTmEE", 64, 0, whole, codes "a::b::<(u32,)>") ∷
    (Plain, "_RINvC1a1bKhff_E", 64, 0, whole, codes "a::b::<255u8>") ∷
    (Short, "_RINvC1a1bKhff_E", 64, 0, whole, codes "a::b::<255>") ∷
    (Plain, "_RINvC1a1bL0_E", 64, 0, damaged, codes "a::b::<'{invalid syntax}>") ∷
    (Plain, "_RINvC1a1bFG_RL0_mEuE", 64, 0, whole, codes "a::b::<for<'a> fn(&'a u32)>") ∷
    (Plain, "_RNvMC1aNtC1b1S1f", 64, 0, whole, codes "<b::S>::f") ∷
    (Plain, "_RINvC1a1bWmRm1_m9_E", 64, 0, whole, codes "a::b::<u32 is 1u32..=9u32>") ∷
    (Plain, "_RINvC1a1bTmB8_EE", 64, 0, whole, codes "a::b::<(u32, u32)>") ∷
    (Plain, "_RINvC1a1bTmB3_EE", 64, 0, damaged, codes "a::b::<(u32, {invalid syntax})>") ∷
    (Plain, "_RB_", 64, 1, unknown, []) ∷ []

claim : map read lines ≡ map expected lines
unfolding lines read expected
claim = refl
