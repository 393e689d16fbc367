-- How a source is stored: as its text and its items.
use Rattle.std.specs.Prelude.{ℕ, List, refl}
use Rattle.std.specs.Coded.{Coded, code_by, coded×, coded_list, coded_ℕ}
use Rattle.cep_parse.specs.declared.raw.RawItem.{RawItem}
use Rattle.cep_parse.specs.contracts.raw.RawItem as raw_item
use Rattle.cep_source.specs.Items.{Source}

abbrev pub source_code : Coded Source
source_code =
    code_by (List ℕ × List RawItem) (coded× (coded_list coded_ℕ) (coded_list raw_item.the_row.coded))
    (λ source. (source.text, source.file)) (λ parts. record { text = parts.0; file = parts.1 }) (λ _. refl)
