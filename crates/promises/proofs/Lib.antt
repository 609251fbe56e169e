pub mod UndoExact
