pub mod KefInPlace
