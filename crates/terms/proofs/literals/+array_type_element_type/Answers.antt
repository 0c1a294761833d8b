use Rattle.terms.proofs.Arrays.{along_elements, of_elements}
use Rattle.terms.proofs.literals.+array_type_element_type.Goals as goal

pub array_type-loop-init : goal.array_type-loop-init
array_type-loop-init t c = search along_elements

pub array_type-element_type-element-requires : goal.array_type-element_type-element-requires
array_type-element_type-element-requires t c = search along_elements

pub array_type-loop-preserved : goal.array_type-loop-preserved
array_type-loop-preserved t c = search along_elements

pub array_type-array_of-requires : goal.array_type-array_of-requires
array_type-array_of-requires t c = search along_elements

pub array_type-returns : goal.array_type-returns
array_type-returns t c = search along_elements

pub element_type-term_kind_at-requires : goal.element_type-term_kind_at-requires
element_type-term_kind_at-requires t c = search of_elements

pub element_type-term_part-elements-requires : goal.element_type-term_part-elements-requires
element_type-term_part-elements-requires t c = search of_elements

pub element_type-overflow_sub-left : goal.element_type-overflow_sub-left
element_type-overflow_sub-left t c = search of_elements

pub element_type-array_type-requires : goal.element_type-array_type-requires
element_type-array_type-requires t c = search of_elements

pub element_type-returns : goal.element_type-returns
element_type-returns t c = search of_elements

pub element_type-leaf_type-requires : goal.element_type-leaf_type-requires
element_type-leaf_type-requires t c = search of_elements

pub element_type-past_term-requires : goal.element_type-past_term-requires
element_type-past_term-requires t c = search of_elements
