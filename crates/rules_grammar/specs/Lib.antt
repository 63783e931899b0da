pub mod Grammar
pub mod GrammarForms
pub mod GrammarKinds
pub mod GrammarParts
