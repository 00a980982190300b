mod FrameForms
mod ProgramForms
mod ServerForms
mod Values
