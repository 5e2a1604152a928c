-- A single request takes few bytes. Assumes nothing.
use Rattle.std.proofs.Common.{ℕ, suc, ◌*◌, ◌≤◌, List, [], ◌∷◌, ◌++◌, map, length, Some, None, Option, arith, length-append}
use Rattle.std.specs.List.{flat_map}
use Rattle.std.specs.Option.{option_map}
use Rattle.std.proofs.lemmas.List.{length-take}
use Rattle.std.proofs.lemmas.Bool.{cond_both}
use Rattle.model.specs.Content.{Attribute, Element}
use Rattle.model.specs.Spelling.{is_any, spell_code, spell_text, spell_some, spell_list, spell_attribute, spell_element}
use Rattle.single.specs.Written.{cut, cut_attribute, cut_attributes, cut_element, other_type, type_bytes}

cut_few : {X : Type 0} (xs : List X) → length (cut xs) ≤ 255
cut_few xs = let l = length-take 255 xs in omega arith

issuer_few : (o : Option (List ℕ)) → length (spell_some spell_text (option_map cut o)) ≤ 256
issuer_few None = omega arith
issuer_few (Some t) = let l = cut_few t in omega arith

type_few : (t : ℕ) → length (type_bytes t) ≤ 1
type_few t = cond_both (other_type t) (spell_code t) [] (λ l. length l ≤ 1) (λ _. omega arith) (λ _. omega arith)

attribute_few : (a : Attribute) → length (spell_attribute (cut_attribute a)) ≤ 515
attribute_few a =
    let issuer = spell_some spell_text (option_map cut a.issuer) in
    let value = spell_text (cut a.value) in
    let t = type_few a.type in
    let i = issuer_few a.issuer in
    let v = cut_few a.value in
    let l = length-append (type_bytes a.type) (issuer ++ value) in
    let k = length-append issuer value in
    omega arith

attributes_few : (xs : List Attribute) → length (flat_map spell_attribute (map cut_attribute xs)) ≤ length xs * 515
attributes_few [] = omega arith
attributes_few (x ∷ xs) =
    let h = attribute_few x in
    let r = attributes_few xs in
    let l = length-append (spell_attribute (cut_attribute x)) (flat_map spell_attribute (map cut_attribute xs)) in
    omega arith

element_few : (e : Element) → length (spell_element (cut_element e)) ≤ 200000
element_few e =
    let a = attributes_few (cut e.attributes) in
    let c = cut_few e.attributes in
    cond_both (is_any (cut_attributes e.attributes)) (spell_list spell_attribute (cut_attributes e.attributes)) [] (λ l. suc (suc (length l)) ≤ 200000) (λ _. omega arith) (λ _. omega arith)

pub elements_few : (es : List Element) → length (flat_map spell_element (map cut_element es)) ≤ length es * 200000
elements_few [] = omega arith
elements_few (e ∷ es) =
    let h = element_few e in
    let r = elements_few es in
    let l = length-append (spell_element (cut_element e)) (flat_map spell_element (map cut_element es)) in
    omega arith
